use Rattle.std.proofs.Common.{◌∙◌, Some, None, arith}
use Rattle.hdt_build.proofs.TripleEntries.{entries_passed, no_entries}
use Rattle.hdt_build.proofs.triple_entries.next_entry.Goals as goal

pub returns-in-Some-entry_of-clause-some : goal.returns-in-Some-entry_of-clause-some
returns-in-Some-entry_of-clause-some g c = λ known.
    let taken = rw c.in-Some.is at c.in_ok-triple.ensures.some in
    entries_passed c.args.sequence c.in-Some.triple c.args.triples.now c.triples.triples c.take.new.self
    (Some c.in-Some-entry_of.entry) c.entry_of.result c.current.result (c.triples.invariant.known known) (taken known)
    c.in-Some-entry_of.is c.entry_of.ensures c.current.ensures

pub triples-preserved : goal.triples-preserved
triples-preserved g c =
    let taken = rw c.in-Some.is at c.in_ok-triple.ensures.some in
    let fewer = rw c.in-Some.is at c.in_ok-triple.ensures.fewer in
    record {
      known = λ known.
          entries_passed c.args.sequence c.in-Some.triple c.args.triples.now c.triples.triples c.take.new.self None
          c.entry_of.result c.current.result (c.triples.invariant.known known) (taken known) c.in_default-entry_of.is
          c.entry_of.ensures c.current.ensures;
      fewer = omega (arith, fewer, c.triples.invariant.fewer);
    }

pub returns-clause-none : goal.returns-clause-none
returns-clause-none g c = λ known.
    let none = rw c.in_default.is at c.in_ok-triple.ensures.none in
    c.triples.invariant.known known ∙ no_entries c.args.sequence c.triples.triples none
