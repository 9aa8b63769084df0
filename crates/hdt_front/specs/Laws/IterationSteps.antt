-- One step of an iteration.
use Rattle.std.proofs.Common.{◌≡◌, ◌≢◌, Bool, true, false, ◌||◌, eqb, ℕ, zero, suc, ◌+◌, ◌-◌, ◌≤◌, ◌++◌, List, [], ◌∷◌}
use Rattle.std.proofs.Common.{length, take, Option, Some, Ok, sym, ap, ◌∙◌, arith, subst}
use Rattle.std.proofs.lemmas.Bool.Decides.{nat_tests}
use Rattle.hdt_front.specs.Decoding.{is_block_start, stored_prefix_len, suffix_of, decoded_string, after_entry}
use Rattle.hdt_front.specs.StringChecks.{BlockLayout, rest_offset, precedes, strings_check}
use Rattle.hdt_front.specs.EntryFacts.{IsCheckedEntry}
use Rattle.hdt_front.specs.Iteration.{LocatedString, IterState, After, LocatedAscend, located_from, step_iter}
use Rattle.hdt_front.specs.Iteration.{step_iter_by, next_offset, cursor_strings}
use Rattle.hdt_front.specs.Laws.StringSteps.{step, shorter}

pub ended : (p : BlockLayout) (count i : ℕ) (last rest : List ℕ) → i ≡ count
    → located_from p (count - i) i last rest ≡ []
unfolding located_from
ended p count i last rest e = let none : count - i ≡ 0 = omega (arith, e) in ap (λ n. located_from p n i last rest) none

pub stays : (w : IterState) → w.ahead ≡ [] → w ≡ step_iter w
stays w e = sym (ap (step_iter_by w) e)

-- The facts about the step to string i.
pub record IsIterStep (p : BlockLayout) (count i : ℕ) (last rest : List ℕ) : Type 0 where
  pub row : IsCheckedEntry p i last rest
  pub rows : strings_check p (count - (i + 1)) (i + 1) (decoded_string (is_block_start p.block_size i) last rest)
      (after_entry (is_block_start p.block_size i) rest) ≡ Ok tt
  pub ahead : located_from p (count - i) i last rest
      ≡ record { string = decoded_string (is_block_start p.block_size i) last rest; place = rest_offset p rest }
      ∷ located_from p (count - (i + 1)) (i + 1) (decoded_string (is_block_start p.block_size i) last rest)
      (after_entry (is_block_start p.block_size i) rest)
  pub within : length (after_entry (is_block_start p.block_size i) rest) ≤ length rest

pub iter_step : (p : BlockLayout) (count i : ℕ) (last rest : List ℕ) → i ≤ count → i ≢ count
    → strings_check p (count - i) i last rest ≡ Ok tt → IsIterStep p count i last rest
unfolding located_from
iter_step p count i last rest le ne e =
    let one : count - i ≡ suc (count - (i + 1)) = omega (arith, le, ne) in
    let s = step p (count - (i + 1)) i last rest (sym (ap (λ n. strings_check p n i last rest) one) ∙ e) in
    record {
      row = s.0;
      rows = s.1;
      ahead = ap (λ n. located_from p n i last rest) one;
      within =
          omega (arith, shorter (is_block_start p.block_size i) rest s.0.ends);
    }

pub goes : (p : BlockLayout) (count i : ℕ) (last rest s r : List ℕ) (w : IterState) → IsIterStep p count i last rest
    → s ≡ decoded_string (is_block_start p.block_size i) last rest
    → r ≡ after_entry (is_block_start p.block_size i) rest
    → located_from p (count - i) i last rest ≡ w.ahead
    → (let after : IterState = record { last = s; ahead = located_from p (count - (i + 1)) (i + 1) s r } in after)
    ≡ step_iter w
goes p count i last rest s r w m es er e =
    let view : List ℕ → List ℕ
    → IterState = λ s r. record { last = s; ahead = located_from p (count - (i + 1)) (i + 1) s r } in
    ap (λ s. view s r) es ∙ ap (view (decoded_string (is_block_start p.block_size i) last rest)) er
    ∙ sym (ap (step_iter_by w) (sym e ∙ m.ahead))

pub same_checks : (p : BlockLayout) (n i : ℕ) (s r s' r' : List ℕ) → s ≡ s' → r ≡ r' → strings_check p n i s' r' ≡ Ok tt
    → strings_check p n i s r ≡ Ok tt
same_checks p n i s r s' r' es er e = ap (λ s. strings_check p n i s r) es ∙ ap (strings_check p n i s') er ∙ e

pub string_made : (h : Bool) (last rest s t : List ℕ) (k : ℕ) → s ≡ take k last ++ t → k ≡ stored_prefix_len h rest
    → t ≡ suffix_of h rest → s ≡ decoded_string h last rest
unfolding decoded_string
string_made h last rest s t k e ek et = e ∙ ap (λ k. take k last ++ t) ek
    ∙ ap (λ t. take (stored_prefix_len h rest) last ++ t) et

-- ---- the order

pub not_zero : (r : ℕ) → 1 ≤ r → eqb r 0 ≡ false
not_zero r h = grind (arith, nat_tests)

or_second : (i : ℕ) (b : Bool) → (eqb (suc i) 0 || b) ≡ true → b ≡ true
or_second i b e = sym (ap (λ a. a || b) (not_zero (suc i) (omega arith))) ∙ e

pub after_from : (p : BlockLayout) (n i : ℕ) (before rest : List ℕ) → strings_check p n (suc i) before rest ≡ Ok tt
    → After before (located_from p n (suc i) before rest)
unfolding located_from
after_from p zero i before rest e = tt
after_from p (suc n) i before rest e =
    let s = step p n (suc i) before rest e in
    let next : suc i + 1 ≡ suc (suc i) = omega arith in
    let S : List ℕ = decoded_string (is_block_start p.block_size (suc i)) before rest in
    let A : List ℕ = after_entry (is_block_start p.block_size (suc i)) rest in (
      or_second i (precedes before S) s.0.ascends,
      subst (λ k. After S (located_from p n k S A)) (sym next)
          (after_from p n (suc i) S A (ap (λ k. strings_check p n k S A) (sym next) ∙ s.1)),
    )

pub ascends_from : (p : BlockLayout) (n : ℕ) (bytes : List ℕ) → strings_check p n 0 [] bytes ≡ Ok tt
    → LocatedAscend (located_from p n 0 [] bytes)
unfolding located_from
ascends_from p zero bytes e = tt
ascends_from p (suc n) bytes e =
    let s = step p n 0 [] bytes e in
    let S : List ℕ = decoded_string (is_block_start p.block_size 0) [] bytes in
    let A : List ℕ = after_entry (is_block_start p.block_size 0) bytes in
    let one : 0 + 1 ≡ suc 0 = omega arith in
    after_from p n 0 S A s.1

-- ---- a cursor after its first step

here_by : (last : List ℕ) (ahead : List LocatedString) (r : Option ℕ) (v : IterState) → r ≡ next_offset ahead
    → v ≡ step_iter_by (record { last = last; ahead = ahead }) ahead → cursor_strings r v ≡ ahead
here_by last [] r v e f = ap (λ r. cursor_strings r v) e
here_by last (p ∷ ps) r v e f = ap (λ r. cursor_strings r v) e ∙ ap (cursor_strings (Some p.place)) f

pub ascends_here : (w v : IterState) (r : Option ℕ) (ahead : List LocatedString)
    → w ≡ record { last = []; ahead = ahead } → r ≡ next_offset w.ahead → v ≡ step_iter w → LocatedAscend ahead
    → LocatedAscend (cursor_strings r v)
ascends_here w v r ahead e f g a =
    subst LocatedAscend (sym (here_by [] ahead r v (f ∙ ap (λ (w : IterState). next_offset w.ahead) e) (g
    ∙ ap step_iter e))) a
