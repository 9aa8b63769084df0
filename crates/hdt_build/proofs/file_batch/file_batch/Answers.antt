use Rattle.std.proofs.Common.{◌∙◌, ◌++◌, ℕ, List, ap}
use Rattle.hdt_wire.specs.declared.Role.TheVariants.{Subject, Predicate, Object}
use Rattle.hdt_file.specs.Graph.{layout_view}
use Rattle.hdt_build.specs.Inside.Batches.{records_of}
use Rattle.hdt_build.proofs.FileBatches.{file_batch_is}
use Rattle.hdt_build.proofs.file_batch.file_batch.Goals as goal

pub returns : goal.returns
returns g c known =
    let graph = layout_view c.args.layout.now in
    let prefix = c.args.prefix.now in
    let is = rw c.in-Some.is at c.in_ok-triples.ensures.is in
    let used = rw c.in-Some.is at c.in_ok-triples.ensures.used in
    file_batch_is prefix graph c.requires c.in_ok-count.count c.in_ok-count.ensures.is c.in_ok-count.ensures.fits
    c.write_records-3.new.runs c.in-Some.triples
    (c.in_ok-write_records-3.ensures known
    ∙ ap (λ (l : List (List ℕ)). l ++ records_of prefix graph Object)
    (c.in_ok-write_records-2.ensures known
    ∙ ap (λ (l : List (List ℕ)). l ++ records_of prefix graph Subject)
    (c.in_ok-write_records.ensures known
    ∙ ap (λ (l : List (List ℕ)). l ++ records_of prefix graph Predicate) c.new-runs.ensures)))
    (is known) (used known)
