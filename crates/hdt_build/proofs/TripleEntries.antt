-- The entries of the four sequences of triples, one after another.
use Rattle.std.proofs.Common.{◌≡◌, ◌∙◌, ℕ, Bool, true, false, not, cond, List, []}
use Rattle.std.proofs.Common.{◌∷◌, Option, Some, None, length, map, nat_eq, refl, ap, sym}
use Rattle.std.specs.List.{dedup_from}
use Rattle.std.proofs.lemmas.List.{length-map}
use Rattle.hdt_seq.specs.PackedBits.{bit_number}
use Rattle.hdt_triples.specs.Groups.{group_end_bits}
use Rattle.hdt_triples.specs.TripleSequences.{Triple}
use Rattle.hdt_triples.specs.Laws.Writing.{pair_exact}
use Rattle.hdt_triples.specs.Writing.{all_pairs, distinct_pairs, pair_eq, sequences_of}
use Rattle.hdt_build.specs.declared.triple_entries.Sequence.{Sequence}
use Rattle.hdt_build.specs.declared.triple_entries.Sequence.TheVariants.{PairEnds, TripleEnds, Predicates, Objects}
use Rattle.hdt_build.specs.Inside.TripleEntries.{entries_of, entry_at, with_entry}
use Rattle.hdt_build.specs.Inside.TripleRuns.{first_of}

abbrev Pair : Type 0
Pair = ℕ × ℕ

abbrev BeginWith : Pair → List Pair → Type 0
BeginWith k ps = (rest : List Pair) × (ps ≡ k ∷ rest)

rest_by : (k x : Pair) (xs : List Pair) (b : Bool) → BeginWith k (dedup_from pair_eq k xs)
    → BeginWith k (cond b (dedup_from pair_eq k xs) (k ∷ dedup_from pair_eq x xs))
rest_by k x xs true same = same
rest_by k x xs false same = (dedup_from pair_eq x xs, refl)

-- the distinct pairs begin with the first one
rest_from : (k : Pair) (xs : List Pair) → BeginWith k (dedup_from pair_eq k xs)
rest_from k [] = ([], refl)
rest_from k (x ∷ xs) = rest_by k x xs (pair_eq x k) (rest_from k xs)

abbrev subject_bits : List Pair → List ℕ
subject_bits ps = map bit_number (group_end_bits nat_eq (map (λ p. p.0) ps))

abbrev predicates_in : List Pair → List ℕ
predicates_in ps = map (λ p. p.1) ps

-- the entry of a pair, by whether the next one is the same
bits_by : (k x : Pair) (xs : List Pair) (b : Bool) → pair_eq x k ≡ b
    → subject_bits (cond b (dedup_from pair_eq k xs) (k ∷ dedup_from pair_eq x xs))
    ≡ with_entry (cond b None (Some (bit_number (not (nat_eq x.0 k.0))))) (subject_bits (dedup_from pair_eq x xs))
bits_by k x xs true is = ap (λ (p : Pair). subject_bits (dedup_from pair_eq p xs)) (sym (pair_exact x k is))
bits_by k x xs false is =
    let r = rest_from x xs in
    ap (λ (ps : List Pair). subject_bits (k ∷ ps)) r.1
    ∙ ap (λ (ps : List Pair). bit_number (not (nat_eq x.0 k.0)) ∷ subject_bits ps) (sym r.1)

predicates_by : (k x : Pair) (xs : List Pair) (b : Bool) → pair_eq x k ≡ b
    → predicates_in (cond b (dedup_from pair_eq k xs) (k ∷ dedup_from pair_eq x xs))
    ≡ with_entry (cond b None (Some k.1)) (predicates_in (dedup_from pair_eq x xs))
predicates_by k x xs true is = ap (λ (p : Pair). predicates_in (dedup_from pair_eq p xs)) (sym (pair_exact x k is))
predicates_by k x xs false is = refl

-- ---- the first entry, and those after it

pub first_entry : (q : Sequence) (t : Triple) (ts : List Triple)
    → entries_of q (t ∷ ts) ≡ with_entry (entry_at q t (first_of ts)) (entries_of q ts)
unfolding entries_of sequences_of
first_entry PairEnds t [] = refl
first_entry PairEnds t (u ∷ us) = bits_by (t.0, t.1) (u.0, u.1) (all_pairs us) (pair_eq (u.0, u.1) (t.0, t.1)) refl
first_entry TripleEnds t [] = refl
first_entry TripleEnds t (u ∷ us) = refl
first_entry Predicates t [] = refl
first_entry Predicates t (u ∷ us) =
    predicates_by (t.0, t.1) (u.0, u.1) (all_pairs us) (pair_eq (u.0, u.1) (t.0, t.1)) refl
first_entry Objects t ts = refl

pub entries_step : (q : Sequence) (t : Triple) (old new : List Triple) (found : Option ℕ) → old ≡ t ∷ new
    → found ≡ entry_at q t (first_of new) → entries_of q old ≡ with_entry found (entries_of q new)
entries_step q t old new found taken is =
    ap (entries_of q) taken ∙ first_entry q t new ∙ ap (λ (e : Option ℕ). with_entry e (entries_of q new)) (sym is)

-- the same, after triples without an entry
pub entries_passed : (q : Sequence) (t : Triple) (all old new : List Triple) (entry found : Option ℕ)
    (next : Option Triple) → entries_of q all ≡ entries_of q old → old ≡ t ∷ new → found ≡ entry
    → found ≡ entry_at q t next → next ≡ first_of new → entries_of q all ≡ with_entry entry (entries_of q new)
entries_passed q t all old new entry found next before taken is of at =
    before ∙ entries_step q t old new entry taken (sym is ∙ of ∙ ap (entry_at q t) at)

pub no_entries : (q : Sequence) (ts : List Triple) → ts ≡ [] → entries_of q ts ≡ []
unfolding entries_of sequences_of
no_entries PairEnds ts none = rw none refl
no_entries TripleEnds ts none = rw none refl
no_entries Predicates ts none = rw none refl
no_entries Objects ts none = rw none refl

pub many_objects : (ts : List Triple) → length (entries_of Objects ts) ≡ length ts
unfolding entries_of sequences_of
many_objects ts = length-map ts (λ (t : Triple). t.2)

pub many_predicates : (ts : List Triple) → length (entries_of Predicates ts) ≡ length (distinct_pairs ts)
unfolding entries_of sequences_of
many_predicates ts = length-map (distinct_pairs ts) (λ (p : Pair). p.1)
