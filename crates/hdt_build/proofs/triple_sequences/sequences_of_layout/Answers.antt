use Rattle.std.proofs.Common.{[], refl, subst, ◌∙◌}
use Rattle.hdt_triples.specs.Remaining.{remaining_matches}
use Rattle.hdt_file.specs.Graph.{layout_view}
use Rattle.hdt_build.specs.Inside.Sequences.{HavePushed}
use Rattle.hdt_build.proofs.DenotedStrings.{matches_all}
use Rattle.hdt_build.proofs.SequencePushes.{have_pushed_all, have_pushed_more}
use Rattle.hdt_build.proofs.triple_sequences.sequences_of_layout.Goals as goal

pub triples-init : goal.triples-init
triples-init c = record {
  done = [];
  pushed = c.in_ok-made.ensures;
  all_are = c.search-triples.ensures.items ∙ matches_all _ (layout_view c.args.layout.now).triples refl refl refl;
}

pub triples-preserved : goal.triples-preserved
triples-preserved c =
    let w = c.in-Some.ensures.steps in
    have_pushed_more (layout_view c.args.layout.now).triples c.triples.made c.push.new.self c.in-Some.triple
    (remaining_matches c.next.new.self) c.in_ok-push.ensures
    (subst (HavePushed (layout_view c.args.layout.now).triples c.triples.made) w.0 c.triples.invariant)

pub returns : goal.returns
returns c =
    let w = c.in_default.ensures.steps in
    have_pushed_all (layout_view c.args.layout.now).triples c.triples.made (remaining_matches c.triples.triples)
    w.0.0 c.triples.invariant
