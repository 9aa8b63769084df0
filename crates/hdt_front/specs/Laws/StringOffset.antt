-- The offset of a string is that of its entry.
use Rattle.std.proofs.Common.{◌≡◌, ℕ, zero, suc, ◌+◌, ◌<◌, ◌≤◌, List, [], ◌∷◌, ◌++◌, length, take, drop, get_or, sym}
use Rattle.std.proofs.Common.{ap, ◌∙◌, arith, length-append}
use Rattle.std.specs.List.{concat}
use Rattle.std.proofs.Math.Seq.{drop-cons}
use Rattle.std.proofs.lemmas.List.{take-append-drop}
use Rattle.std.proofs.lemmas.List.Folds.{concat-append}
use Rattle.hdt_front.specs.Decoding.{is_block_start}
use Rattle.hdt_front.specs.EntryFacts.{bytes_from_entry}
use Rattle.hdt_front.specs.Laws.ChecksComplete.{entry_decodes}
use Rattle.hdt_front.specs.Laws.FrontCoding.{nonzero_to}
use Rattle.hdt_front.specs.Section.{SectionParts, before, AreFrontCoded, AreSectionStrings, IsSectionAt, string_offset}

-- The bytes from entry i on are the entries from i on.
rests : (b : ℕ) (strings : List (List ℕ)) (packed starts : List ℕ) (f : AreFrontCoded b strings packed starts)
    → AreSectionStrings strings
    → (i : ℕ) → i ≤ length strings → bytes_from_entry b i packed ≡ concat (drop i f.entries)
unfolding bytes_from_entry
rests b strings packed starts f are zero le = f.joined
rests b strings packed starts f are (suc i) le =
    let lt : i < length strings = omega (arith, le) in
    let here : drop i f.entries ≡ get_or f.entries i [] ∷ drop (suc i) f.entries =
    drop-cons f.entries i [] (omega (arith, f.one_each, lt)) in
    let rest : bytes_from_entry b i packed ≡ get_or f.entries i [] ++ concat (drop (suc i) f.entries) =
    rests b strings packed starts f are i (omega (arith, le)) ∙ ap concat here in
    (entry_decodes (is_block_start b i) (before strings i) (get_or strings i []) (get_or f.entries i [])
    (bytes_from_entry b i packed) (concat (drop (suc i) f.entries))
    (f.each i lt) (nonzero_to (get_or strings i []) (are.no_zero i lt)) rest).after_is

pub place_is : (s : SectionParts) (bytes : List ℕ) (at : ℕ) (h : IsSectionAt s bytes at) (i : ℕ) → i < length s.strings
    → string_offset s i ≡ s.packed_offset + length (concat (take i h.front_coded.entries))
unfolding string_offset
place_is s bytes at h i lt =
    let f = h.front_coded in
    let left = rests s.block_size s.strings s.packed h.starts.items f h.strings i (omega (arith, lt)) in
    let whole : s.packed ≡ concat (take i f.entries) ++ concat (drop i f.entries) =
    f.joined ∙ ap concat (sym (take-append-drop i f.entries))
    ∙ concat-append (take i f.entries) (drop i f.entries) in
    omega (
      arith,
      ap length whole,
      ap length left,
      length-append (concat (take i f.entries)) (concat (drop i f.entries)),
    )
