use Rattle.std.proofs.Common.{◌∙◌, ◌++◌, List, ℕ, ap, append_assoc, arith, sym}
use Rattle.hdt_dict.specs.Writing.{canonical_dictionary}
use Rattle.hdt_triples.specs.Writing.{canonical_sequences, canonical_triples}
use Rattle.hdt_build.specs.Canonical.{canonical_file, canonical_head}
use Rattle.hdt_build.specs.Inside.Rewriting.{lists_of_sections}
use Rattle.hdt_build.specs.Inside.Sequences.{sequences_in}
use Rattle.hdt_build.proofs.SequencePushes.{many, sequences_are}
use Rattle.hdt_build.proofs.file.encode_merged_file.Goals as goal

pub returns-clause-bytes : goal.returns-clause-bytes
unfolding canonical_file
returns-clause-bytes c = λ ts h.
    let e = c.args.encoded in
    let head = canonical_head c.args.header.now in
    let dictionary = canonical_dictionary e.sections.shared.block_size (lists_of_sections e.sections) in
    c.in_ok-put.ensures
    ∙ (ap (λ (l : List ℕ). l ++ canonical_sequences (sequences_in e.triples)) c.in_ok-bytes.ensures
    ∙ (ap (λ s. (head ++ dictionary) ++ canonical_sequences s) (sequences_are ts e.triples h)
    ∙ append_assoc head dictionary (canonical_triples ts)))

pub returns-clause-report : goal.returns-clause-report
returns-clause-report c = λ ts h.
    c.counted_report-report.ensures (lists_of_sections c.args.encoded.sections) ts c.put.new.out.items
    c.lens-lens.ensures (c.len-count.ensures ∙ sym (many ts c.args.encoded.triples h))
    (omega (arith, c.len.ensures, c.put.new.out.ok.0))
