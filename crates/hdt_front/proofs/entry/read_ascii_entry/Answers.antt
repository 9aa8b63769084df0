use Rattle.std.proofs.Common.{arith}
use Rattle.std.proofs.lemmas.List.{take_rest}
use Rattle.hdt_front.proofs.AsciiEntryLemmas.{ascii_entry_of_suffix}
use Rattle.hdt_front.proofs.entry.read_ascii_entry.Goals as goal

pub returns-then-before-kept : goal.returns-then-before-kept
returns-then-before-kept c =
    ascii_entry_of_suffix c.args.before.now c.args.rest.now _ _ _ (take_rest c.args.rest.now 1) c.requires
    (omega (arith, c.if-is_empty.false)) c.if-rest-lt128.false (c.type_inv.rest 0).fits c.from-kept.ensures
    c.if-kept-before.true c.ascii_len-len.ensures.plain c.if-len-text.true c.if-text-len-eq0.true c.if-before-kept.true
