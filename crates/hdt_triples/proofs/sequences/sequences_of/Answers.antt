use Rattle.std.proofs.Common.{◌≡◌, ◌∙◌, ap, map, nat_eq, Bool, ℕ, List}
use Rattle.std.specs.List.{dedup}
use Rattle.std.proofs.lemmas.List.Filters.{dedup_is}
use Rattle.hdt_triples.specs.TripleSequences.{BitmapTriples}
use Rattle.hdt_triples.specs.Groups.{group_end_bits}
use Rattle.hdt_triples.specs.Inside.SequencesView.{sequences_view}
use Rattle.hdt_triples.specs.Writing.{pair_eq, distinct_pairs, sequences_of}
use Rattle.hdt_triples.proofs.sequences.sequences_of.Goals as goal

same_sequences : (a b c d : List Bool) (e f g h : List ℕ) → a ≡ b → c ≡ d → e ≡ f → g ≡ h
    → let l : BitmapTriples = record { bitmap_y = a; bitmap_z = c; array_y = e; array_z = g } in let r : BitmapTriples =
    record { bitmap_y = b; bitmap_z = d; array_y = f; array_z = h } in l ≡ r
same_sequences a b c d e f g h p q r s = cc

pub returns : goal.returns
unfolding sequences_view sequences_of
returns c =
    let kept = c.dedup.new.self.items in
    let once : kept ≡ distinct_pairs c.args.triples.now =
    dedup_is pair_eq c.in_ok-pairs.pairs.items kept c.dedup.ensures.filtered
    ∙ ap (dedup pair_eq) c.in_ok-pairs.ensures in
    same_sequences _ _ _ _ _ _ _ _
    ((rw c.as_slice-2.ensures.value at c.in_ok-bitmap_y.ensures)
    ∙ ap (λ (l : List (ℕ × ℕ)). group_end_bits nat_eq (map (λ p. p.0) l)) once)
    ((rw c.as_slice.ensures.value at c.in_ok-bitmap_z.ensures) ∙ ap (group_end_bits pair_eq) c.in_ok-pairs.ensures)
    ((rw c.as_slice-3.ensures.value at c.in_ok-array_y.ensures) ∙ ap (λ (l : List (ℕ × ℕ)). map (λ p. p.1) l) once)
    c.in_ok-array_z.ensures
