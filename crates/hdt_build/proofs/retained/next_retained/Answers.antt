use Rattle.std.proofs.Common.{◌≡◌, ℕ, ◌+◌, inl, inr, subst, arith}
use Rattle.std.proofs.lemmas.Bool.{cases_lt}
use Rattle.hdt_file.specs.Graph.{graph_view}
use Rattle.hdt_build.specs.Inside.Rewriting.{RetainsId}
use Rattle.hdt_build.proofs.retained.next_retained.Goals as goal

pub loop-index-preserved : goal.loop-index-preserved
loop-index-preserved c = record {
  passed = λ k from to keep. elim (cases_lt k c.loop-index.index) [
    | inl before ↦ c.loop-index.invariant.passed k from before keep
    | inr last ↦
        let here : k ≡ c.loop-index.index = omega (arith, last, to) in
        let no = c.if-is_retained.false in
        let yes = c.is_retained.ensures.1
        (subst (λ (m : ℕ). RetainsId (graph_view c.args.graph.now) c.args.section (m + 1)) here keep) in
        absurd (cc)
  ];
}
