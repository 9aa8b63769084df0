use Rattle.std.proofs.Common.{◌++◌, ℕ, List, take, nat_eq, ap, ◌∙◌, arith}
use Rattle.std.proofs.lemmas.List.Sums.{common_prefix_len-le}
use Rattle.std.proofs.lemmas.Result.{on_ok_weaker}
use Rattle.hdt_front.specs.Canonical.{encode_entry, entry_with_prefix}
use Rattle.hdt_front.proofs.IterationLcp.{prefix_then_suffix}
use Rattle.hdt_front.proofs.section_writer.push_entry.Goals as goal

pub append_entry-requires : goal.append_entry-requires
append_entry-requires c =
    omega (arith, c.requires, (common_prefix_len-le nat_eq c.args.last.now.items c.args.string.now).1)

pub split_at-requires : goal.split_at-requires
split_at-requires c = omega (arith, c.requires, (common_prefix_len-le nat_eq c.args.last.now.items c.args.string.now).1)

pub returns-clause-packed : goal.returns-clause-packed
unfolding encode_entry
returns-clause-packed c =
    on_ok_weaker c.decode_over.result
    (λ made. c.in_ok-append_entry.ensures.ok
    ∙ ap (λ (n : ℕ). c.args.packed.now.items ++ entry_with_prefix c.args.starts_block n c.args.string.now) c.requires)
    c.decode_over.ensures.ok

pub returns-clause-last : goal.returns-clause-last
returns-clause-last c =
    on_ok_weaker c.decode_over.result
    (λ made. made ∙ ap (λ (t : List ℕ). take c.args.same c.args.last.now.items ++ t) c.split_at.ensures.back
    ∙ prefix_then_suffix c.args.last.now.items c.args.string.now c.args.same c.requires)
    c.decode_over.ensures.ok
