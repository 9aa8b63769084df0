-- A section has at least as many bytes as strings, so the number of strings of a file is less than its length.
use Rattle.std.proofs.Common.{ℕ, ◌+◌, ◌≤◌, List, [], ◌∷◌, ◌++◌, length, arith, length-append}
use Rattle.std.specs.Int.{bytes_low_first}
use Rattle.hdt_wire.specs.Crc.{crc8, crc32}
use Rattle.hdt_seq.specs.Numbers.{numbers_encoding}
use Rattle.hdt_front.specs.SectionWriting.{section_preamble}
use Rattle.hdt_wire.specs.Control.{control}
use Rattle.hdt_wire.specs.declared.control.Kind.TheVariants as kinds
use Rattle.hdt_front.specs.Canonical.{packed_of, block_offsets, canonical}
use Rattle.hdt_front.specs.Laws.Canonical.{enough_bytes}
use Rattle.hdt_dict.specs.Dictionary.{SectionLists}
use Rattle.hdt_dict.specs.Writing.{mapping, canonical_dictionary}

section_bytes : (b : ℕ) (strings : List (List ℕ)) → length strings ≤ length (canonical b strings)
unfolding canonical
section_bytes b strings =
    let P : List ℕ = packed_of b strings in
    let S : List ℕ = numbers_encoding (block_offsets b strings) in
    let H : List ℕ = section_preamble (length strings) (length P) b in
    let C : List ℕ = bytes_low_first 0 4 (crc32 P) in
    omega (
      arith,
      enough_bytes b 0 [] strings,
      length-append H (crc8 H ∷ (S ++ (P ++ C))),
      length-append S (P ++ C),
      length-append P C,
    )

-- the strings of all sections
pub dictionary_bytes : (b : ℕ) (d : SectionLists)
    → length d.shared + length d.subjects + length d.predicates + length d.objects ≤ length (canonical_dictionary b d)
unfolding canonical_dictionary
dictionary_bytes b d =
    let block : List ℕ = control kinds.Dictionary mapping in
    let s : List ℕ = canonical b d.shared in
    let u : List ℕ = canonical b d.subjects in
    let p : List ℕ = canonical b d.predicates in
    let o : List ℕ = canonical b d.objects in
    omega (
      arith,
      section_bytes b d.shared,
      section_bytes b d.subjects,
      section_bytes b d.predicates,
      section_bytes b d.objects,
      length-append block (s ++ (u ++ (p ++ o))),
      length-append s (u ++ (p ++ o)),
      length-append u (p ++ o),
      length-append p o,
    )
