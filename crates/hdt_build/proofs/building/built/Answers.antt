use Rattle.std.proofs.Common.{◌≡◌, ◌∙◌, ap, arith, length, vec_len}
use Rattle.hdt_build.specs.Inside.Collecting.{collected_triples}
use Rattle.hdt_build.specs.Graph.{IsEncodedGraph}
use Rattle.hdt_build.specs.Header.{header_body}
use Rattle.hdt_build.specs.Inside.Rewriting.{lists_of_sections}
use Rattle.hdt_build.proofs.BuiltForm.{form_sections, all_built}
use Rattle.hdt_build.proofs.Denoting.{some_triple, writable}
use Rattle.hdt_build.proofs.building.built.Goals as goal

pub encode_file-requires-clause-sections : goal.encode_file-requires-clause-sections
encode_file-requires-clause-sections c =
    let form : IsEncodedGraph (collected_triples c.args.collector)
    (lists_of_sections c.in_ok-encoded.encoded.sections) c.in_ok-encoded.encoded.triples.items =
    rw c.in_ok-list.ensures.graph at c.in_ok-encoded.ensures.form in
    form_sections _ _ _ form c.requires.texts

pub encode_file-requires-clause-triples : goal.encode_file-requires-clause-triples
encode_file-requires-clause-triples c =
    let form : IsEncodedGraph (collected_triples c.args.collector)
    (lists_of_sections c.in_ok-encoded.encoded.sections) c.in_ok-encoded.encoded.triples.items =
    rw c.in_ok-list.ensures.graph at c.in_ok-encoded.ensures.form in
    writable (lists_of_sections c.in_ok-encoded.encoded.sections) c.in_ok-encoded.encoded.triples.items form
    (some_triple (collected_triples c.args.collector)
    (lists_of_sections c.in_ok-encoded.encoded.sections) c.in_ok-encoded.encoded.triples.items form c.requires.some)

pub returns : goal.returns
returns c =
    let form : IsEncodedGraph (collected_triples c.args.collector)
    (lists_of_sections c.in_ok-encoded.encoded.sections) c.in_ok-encoded.encoded.triples.items =
    rw c.in_ok-list.ensures.graph at c.in_ok-encoded.ensures.form in
    let ts = c.in_ok-encoded.encoded.triples in
    let many : vec_len ts ≡ length ts.items = omega (arith, ts.ok.0) in
    all_built (λ v. v.items) c.encode_file.result c.args.options.now (collected_triples c.args.collector)
    (lists_of_sections c.in_ok-encoded.encoded.sections) ts.items c.in_ok-header.header.items
    c.requires.some (form_sections _ _ _ form c.requires.texts) form
    ((rw (c.as_slice.ensures.value, c.len.ensures) at c.in_ok-header.ensures)
    ∙ ap (header_body c.args.options.now.base.items) many)
    (rw (c.as_slice-2.ensures.value, c.in_ok-encoded.ensures.blocks.shared) at c.encode_file.ensures.bytes)
    c.encode_file.ensures.report
