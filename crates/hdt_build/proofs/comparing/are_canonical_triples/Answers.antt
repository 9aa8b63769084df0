use Rattle.std.proofs.Common.{◌≡◌, ◌∙◌, List, ℕ, ap, subst}
use Rattle.std.specs.Prelude.{◌↔◌, IsTrue}
use Rattle.hdt_triples.specs.Writing.{canonical_sequences, canonical_triples}
use Rattle.hdt_file.specs.Graph.{layout_view}
use Rattle.hdt_build.proofs.RestOfBytes.{same_bytes}
use Rattle.hdt_build.proofs.SequencePushes.{sequences_are, some_y, some_z}
use Rattle.hdt_build.proofs.comparing.are_canonical_triples.Goals as goal

pub put-requires-clause-pairs : goal.put-requires-clause-pairs
put-requires-clause-pairs c =
    some_y (layout_view c.args.layout.now).triples c.in_ok-sequences.sequences c.in_ok-sequences.ensures c.requires

pub put-requires-clause-triples : goal.put-requires-clause-triples
put-requires-clause-triples c =
    some_z (layout_view c.args.layout.now).triples c.in_ok-sequences.sequences c.in_ok-sequences.ensures c.requires

pub returns : goal.returns
returns c =
    let ts = (layout_view c.args.layout.now).triples in
    let made : c.as_slice.result.now ≡ canonical_triples ts =
    c.as_slice.ensures.value ∙ rw c.new-part.ensures.items at c.in_ok-put.ensures
    ∙ ap canonical_sequences (sequences_are ts c.in_ok-sequences.sequences c.in_ok-sequences.ensures) in
    subst (λ (x : List ℕ). IsTrue c.eq.result ↔ (c.args.bytes.now ≡ x)) made
    (same_bytes c.args.bytes.now c.as_slice.result.now c.eq.result c.eq.ensures)
