use Rattle.std.proofs.Common.{◌≡◌, ℕ, ◌+◌, ◌-◌, ◌++◌, List, length, take, drop, Ok, arith, ap, sym, ◌∙◌, subst}
use Rattle.std.proofs.lemmas.List.{take_rest}
use Rattle.hdt_front.specs.Inside.AsciiEntries.{IsAsciiEntry}
use Rattle.hdt_front.specs.PackedView.{block_layout}
use Rattle.hdt_front.proofs.AsciiEntryLemmas.{ascii_entry_check}
use Rattle.hdt_front.proofs.packed.PackedStrings.check_string.Goals as goal

pub returns-in-Some-clause-exact : goal.returns-in-Some-clause-exact
returns-in-Some-clause-exact c =
    let rest : List ℕ = c.args.rest.now in
    let before : List ℕ = c.args.before.now.items in
    let kept : ℕ = c.in-Some.kept in
    let len : ℕ = c.in-Some.len in
    let behind : take (length rest - 1) (drop 1 rest) ≡ drop 1 rest = take_rest rest 1 in
    let entry : IsAsciiEntry before rest kept len =
    subst (λ (l : List ℕ). IsAsciiEntry l rest kept len) c.deref.ensures.value c.in-Some.ensures in
    let string : c.decode_over.new.string.items ≡ take kept before ++ take len (drop 1 rest) =
    c.in_ok-decode_over.ensures.ok ∙ ap (λ (t : List ℕ). take kept before ++ take len t) behind in
    ascii_entry_check (block_layout c.args.self.now) c.args.i before rest kept len
    (λ e. omega (arith, e, c.requires.index, c.if-index_in_block-gt0.true)) entry
    ∙ ap (λ (s : List ℕ). Ok (s, drop (len + 1) (drop 1 rest))) (sym string)
    ∙ ap (λ (t : List ℕ). Ok (c.decode_over.new.string.items, t))
    (sym (take_rest (take (length rest - 1) (drop 1 rest)) (len + 1)
    ∙ ap (λ (t : List ℕ). drop (len + 1) t) behind))
