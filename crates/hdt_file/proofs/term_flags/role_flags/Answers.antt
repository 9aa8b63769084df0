use Rattle.hdt_file.specs.Graph.{layout_view}
use Rattle.hdt_dict.specs.Dictionary.{role_strings}
use Rattle.hdt_file.proofs.RenderedTermLaws.{ended}
use Rattle.hdt_file.proofs.TermFlagLaws.{all_flags}
use Rattle.hdt_file.proofs.term_flags.role_flags.Goals as goal

pub returns : goal.returns
returns c =
    let w = c.strings.strings in
    rw c.shortened.ensures
    (all_flags c.args.role (role_strings (layout_view c.args.layout.now).dictionary c.args.role) w.ahead
    c.strings.flags.items c.strings.invariant
    (ended w w.ahead c.in_ok-_number.field-0 c.in_ok-_number.ensures.id (λ k. c.in_default.not-Some k)))
