use Rattle.hdt_build.proofs.BatchEncoding.{batches_form}
use Rattle.hdt_build.proofs.batch_encoding.encode_batches.Goals as goal

pub returns : goal.returns
returns g c =
    let m = rw (c.in-Some.is, c.deref.ensures.value) at c.in_ok-found.ensures in
    let merged = c.in-Some.merged in
    let split = c.in_ok-runs.ensures in
    let lists = c.in-Some-found.lists.items in
    let ids = rw (c.in-Some-found.is, c.shared_len-shared.ensures, c.count_of-count.ensures)
    at c.in_ok-found-2.ensures in
    record {
      valid = m.finished.valid;
      blocks = m.finished.written.blocks;
      encoded = λ known graph are.
          batches_form g.S.Scratch.IsKnown c.args.block_size c.in_ok-runs.runs.items c.args.records.items
          c.in_ok-runs.counts.items split.groups split.joined c.args.triples.items merged.sections merged.numbers
          merged.events lists m ids c.in-Some-2.triples known
          ((rw c.in-Some-2.is at c.in_ok-triples.ensures.ascending) known)
          ((rw (c.in-Some-2.is, c.deref-2.ensures.value) at c.in_ok-triples.ensures.same) known) graph are;
    }
