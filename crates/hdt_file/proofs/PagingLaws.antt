-- Pages of matches.
use Rattle.std.proofs.Common.{◌≡◌, ℕ, ◌+◌, ◌≤◌, ◌<◌, zero, suc, List, [], ◌∷◌, ◌++◌, Bool, true, false, cond, Some}
use Rattle.std.proofs.Common.{filter, length, take, drop, slice_get, refl, ap, sym, ◌∙◌, append_assoc, subst, arith}
use Rattle.std.proofs.lemmas.List.{drop-drop, get_or-drop, length-drop, length-take, take-append-le, take_all}
use Rattle.std.proofs.lemmas.Option.{none-some}
use Rattle.hdt_triples.specs.declared.pattern.Pattern.{Pattern}
use Rattle.hdt_triples.specs.TripleSequences.{BitmapTriples, Triple, triple_at, triples_of}
use Rattle.hdt_triples.specs.Laws.TripleSequences.{length-triples, triple_is}
use Rattle.hdt_triples.specs.Order.{nth_triple}
use Rattle.hdt_triples.specs.Patterns.{agrees, matches}
use Rattle.hdt_file.specs.Paging.{IsNextMatch}

-- the first n + 1 of a list are its first member and the first n of the rest
one_more : (n : ℕ) (found items new : List Triple) (t : Triple) (left rest : List Triple) → left ≡ t ∷ rest
    → new ≡ items ++ t ∷ []
    → found ≡ items ++ take (suc n) left → found ≡ new ++ take n rest
one_more n found items new t left rest first is h =
    h ∙ ap (λ (l : List Triple). items ++ take (suc n) l) first ∙ sym (append_assoc items (t ∷ []) (take n rest))
    ∙ ap (λ (l : List Triple). l ++ take n rest) (sym is)

-- ---- the triples of a page: `all` are the matches, `left` those that the iterator still has

pub record Continues (all : List Triple) (most : ℕ) (old items : List Triple) (remaining : ℕ)
    (left : List Triple) : Type 0 where
  pub page : old ++ take most all ≡ items ++ take remaining left
  pub rest : drop most all ≡ drop remaining left
  pub kept : take (length old) items ≡ old

pub begins : (all : List Triple) (most : ℕ) (old : List Triple) → Continues all most old old most all
begins all most old = record { page = refl; rest = refl; kept = take_all (length old) old (omega arith) }

pub continues : (all : List Triple) (most : ℕ) (old items new : List Triple) (remaining n : ℕ) (t : Triple)
    (left rest : List Triple) → remaining ≡ suc n → left ≡ t ∷ rest → new ≡ items ++ t ∷ []
    → Continues all most old items remaining left → Continues all most old new n rest
continues all most old items new remaining n t left rest count first is c = record {
  page = one_more n (old ++ take most all) items new t left rest first is (c.page
      ∙ ap (λ m. items ++ take m left) count);
  rest = c.rest ∙ ap (λ m. drop m left) count ∙ ap (drop (suc n)) first;
  kept = ap (take (length old)) is
      ∙ take-append-le (length old) items (t ∷ []) (omega (arith, ap length c.kept, length-take (length old) items))
      ∙ c.kept;
}

-- ---- the next match

-- Element i is the one after the first n that are kept.
pub record IsNextKept (keep : Triple → Bool) (xs : List Triple) (n : ℕ) (t : Triple) : Type 0 where
  pub at : ℕ
  pub within : at < length xs
  pub is : nth_triple xs at ≡ t
  pub own : keep t ≡ true
  pub rest : filter keep (drop at xs) ≡ drop n (filter keep xs)
  pub later : n ≤ at

next_by : (keep : Triple → Bool) (x : Triple) (xs : List Triple) (n : ℕ) (t : Triple) (b : Bool) → keep x ≡ b
    → ((m : ℕ) → slice_get (drop m (filter keep xs)) 0 ≡ Some t → IsNextKept keep xs m t)
    → slice_get (drop n (cond b (x ∷ filter keep xs) (filter keep xs))) 0 ≡ Some t → IsNextKept keep (x ∷ xs) n t
next_by keep x xs n t false e behind is =
    let k = behind n is in
    record {
      at = suc k.at;
      within = omega (arith, k.within);
      is = k.is;
      own = k.own;
      rest = k.rest ∙ sym (ap (λ b. drop n (cond b (x ∷ filter keep xs) (filter keep xs))) e);
      later = omega (arith, k.later);
    }
next_by keep x xs zero t true e behind is =
    let same : x ≡ t = cc in
    record { at = 0; within = omega arith; is = same; own = ap keep (sym same) ∙ e; rest = refl; later = omega arith }
next_by keep x xs (suc n) t true e behind is =
    let k = behind n is in
    record {
      at = suc k.at;
      within = omega (arith, k.within);
      is = k.is;
      own = k.own;
      rest = k.rest ∙ sym (ap (λ b. drop (suc n) (cond b (x ∷ filter keep xs) (filter keep xs))) e);
      later = omega (arith, k.later);
    }

next_kept : (keep : Triple → Bool) (xs : List Triple) (n : ℕ) (t : Triple)
    → slice_get (drop n (filter keep xs)) 0 ≡ Some t → IsNextKept keep xs n t
next_kept keep [] zero t is = absurd (none-some t is)
next_kept keep [] (suc n) t is = absurd (none-some t is)
next_kept keep (x ∷ xs) n t is = next_by keep x xs n t (keep x) refl (λ m h. next_kept keep xs m t h) is

-- The triple after a page, and its index, in equal triples f and g.
pub record IsIndexOfNext (f g : BitmapTriples) (pattern : Pattern) (from most : ℕ) (t : Triple) : Type 0 where
  pub index : ℕ
  pub within : index < length g.array_z
  pub is : triple_at g index ≡ t
  pub next : IsNextMatch (triples_of f) pattern from most index

pub index_of_next : (f g : BitmapTriples) (pattern : Pattern) (from most : ℕ) (t : Triple) (rest : List Triple) → g ≡ f
    → drop most (matches pattern (drop from (triples_of f))) ≡ t ∷ rest → IsIndexOfNext f g pattern from most t
unfolding matches
index_of_next f g pattern from most t rest same first =
    let ts = triples_of f in
    let k = next_kept (agrees pattern) (drop from ts) most t (ap (λ xs. slice_get xs 0) first) in
    let within : from + k.at < length ts = omega (arith, k.within, length-drop from ts) in
    let nth : nth_triple ts (from + k.at) ≡ t = sym (get_or-drop from ts k.at (0, 0, 0)) ∙ k.is in
    subst (λ (h : BitmapTriples). IsIndexOfNext f h pattern from most t) (sym same) (record {
      index = from + k.at;
      within = omega (arith, within, length-triples f);
      is = sym (triple_is f (from + k.at) (omega (arith, within, length-triples f))) ∙ nth;
      next = record {
        within = within;
        is = ap (agrees pattern) nth ∙ k.own;
        rest = ap (filter (agrees pattern)) (sym (drop-drop k.at from ts)) ∙ k.rest;
        later = omega (arith, k.later);
      };
    })
