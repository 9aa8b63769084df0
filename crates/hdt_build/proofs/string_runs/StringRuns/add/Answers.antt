use Rattle.std.proofs.Common.{◌∙◌, ◌++◌, List, ℕ, ap, arith, length}
use Rattle.std.proofs.lemmas.List.{length-append}
use Rattle.hdt_build.specs.Inside.TripleRuns.{joined_runs}
use Rattle.hdt_build.proofs.TripleRuns.{joined_more}
use Rattle.hdt_build.proofs.string_runs.StringRuns.add.Goals as goal

pub invariant_of-self-2 : goal.invariant_of-self-2
invariant_of-self-2 c =
    let s = c.self.inside in
    let is = ap (λ (rs : List (List (List ℕ))). joined_runs rs) c.in_ok-push.ensures.items
    ∙ joined_more s.runs.items c.args.run in
    omega (
      arith,
      ap length is,
      length-append (joined_runs s.runs.items) c.args.run,
      c.self.invariant,
      c.len.ensures,
      c.in-Some.is,
    )

pub returns : goal.returns
returns c =
    let s = c.self.inside in
    ap (λ (rs : List (List (List ℕ))). joined_runs rs) c.in_ok-push.ensures.items
    ∙ (joined_more s.runs.items c.args.run ∙ ap (λ (l : List (List ℕ)). l ++ c.args.run) c.self.view_is)
