use Rattle.std.proofs.Common.{◌∙◌, refl}
use Rattle.hdt_triples.specs.Remaining.{remaining_matches}
use Rattle.hdt_file.specs.Graph.{layout_view}
use Rattle.hdt_build.specs.Inside.Batches.{indices_of}
use Rattle.hdt_build.proofs.DenotedStrings.{matches_all}
use Rattle.hdt_build.proofs.FileBatches.{none_left, writing_done, writing_more, writing_none}
use Rattle.hdt_build.proofs.file_batch.write_triples.Goals as goal

pub triples-init : goal.triples-init
triples-init g c =
    let all = (layout_view c.args.layout.now).triples in
    writing_none (indices_of c.count-predicates.result c.count-subjects.result) all g.S.Scratch.IsKnown c.args.count
    (remaining_matches c.search-matches.result) c.args.out c.in_ok-used.used.items
    (c.search-matches.ensures.items ∙ matches_all _ all refl refl refl) c.requires
    (c.in_ok-used.ensures.items_if_clones_equal (λ y same. cc))

pub triples-preserved : goal.triples-preserved
triples-preserved g c =
    writing_more (indices_of c.count-predicates.result c.count-subjects.result) (layout_view c.args.layout.now).triples
    g.S.Scratch.IsKnown c.args.count c.in-Some.triple c.indices-s.result (remaining_matches c.triples.matches)
    (remaining_matches c.next.new.self) c.triples.out c.push.new.self c.triples.used.items c.set_flag.new.flags.items
    c.set_flag-in-Some.new.flags.items c.set_flag-in-Some-2.new.flags.items c.indices-s.ensures
    c.in-Some.ensures.steps.0 c.triples.invariant c.in_ok-push.ensures c.set_flag.ensures.len c.set_flag.ensures.is
    c.set_flag-in-Some.ensures.len c.set_flag-in-Some.ensures.is c.set_flag-in-Some-2.ensures.len
    c.set_flag-in-Some-2.ensures.is

pub returns : goal.returns
returns g c =
    let f = indices_of c.count-predicates.result c.count-subjects.result in
    let all = (layout_view c.args.layout.now).triples in
    let l = c.triples in
    let none = none_left c.next.result (remaining_matches l.matches) (remaining_matches c.next.new.self)
    c.next.ensures.steps.0 (λ t. c.in_default.not-Some t) in
    let set = rw c.deref.ensures.value at (c.are_set.ensures c.if-not-are_set.false) in
    let done = writing_done f all g.S.Scratch.IsKnown c.args.count (remaining_matches l.matches) l.out
    c.in_ok-finish.field-0 l.used.items none l.invariant set c.in_ok-finish.ensures in
    record {
      is = λ known. rw (c.count-predicates.ensures, c.count-subjects.ensures) at (done known).0;
      used = λ known. (done known).1;
    }
