use Rattle.std.proofs.Common.{ap, ◌∙◌, ◌∷◌, ◌++◌, [], arith}
use Rattle.hdt_dict.specs.Laws.Arena.{texts_push}
use Rattle.hdt_dict.proofs.arena.Arena.push.Goals as goal

pub returns-clause-ok : goal.returns-clause-ok
returns-clause-ok c =
    rw (c.in_ok-push.ensures.items, c.in_ok-extend_from_slice.ensures.items, c.reserve.ensures.items)
    (texts_push c.self.inside.bytes.items c.self.inside.starts.items c.args.text.now c.len.result c.self.invariant
    (omega (arith, c.len.ensures, c.in_ok-extend_from_slice.ensures.len, c.self.inside.bytes.ok.0))
    ∙ ap (λ l. l ++ c.args.text.now ∷ []) c.self.view_is)
