use Rattle.std.proofs.Common.{◌∙◌, [], map, append-nil, refl}
use Rattle.hdt_dict.specs.Strings.{SameMembers}
use Rattle.hdt_build.specs.Graph.{mapped_triple}
use Rattle.hdt_build.proofs.TripleRuns.{merge_end, part_added}
use Rattle.hdt_build.proofs.triple_runs.push_mapped.Goals as goal

pub runs-preserved : goal.runs-preserved
runs-preserved g c = record {
  known = λ known.
      let made = rw c.in-Some.is at c.in_ok-more.ensures.more in
      let same : SameMembers c.in_ok-written.field-0 c.take_mapped.new.part.items =
      rw (c.in_ok-written.ensures known, c.new-out.ensures known, c.deref.ensures.value)
      c.sort_dedup_triples.ensures.same in
      part_added c.runs.runs.items c.in_ok-written.field-0 c.take_mapped.new.part.items _
      (map (mapped_triple c.args.ids.now c.args.ids.now c.args.ids.now) c.take_mapped.new.reader) _ _
      c.in_ok-push_item.ensures same (made c.if-not-more.false known) (c.runs.invariant.known known);
}

pub returns-then-not-more : goal.returns-then-not-more
returns-then-not-more g c _ known =
    let made = rw c.in-Some.is at c.in_ok-more.ensures.last in
    let same : SameMembers c.in_ok-written.field-0 c.take_mapped.new.part.items =
    rw (c.in_ok-written.ensures known, c.new-out.ensures known, c.deref.ensures.value)
    c.sort_dedup_triples.ensures.same in
    merge_end _ [] _ refl
    (part_added c.runs.runs.items c.in_ok-written.field-0 c.take_mapped.new.part.items _ [] _ _
    c.in_ok-push_item.ensures same (append-nil _ ∙ made c.if-not-more.true known) (c.runs.invariant.known known))
