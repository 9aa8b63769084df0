-- Writing a section of a graph from two runs.
use Rattle.std.proofs.Common.{◌≡◌, ◌≢◌, ◌∙◌, inl, inr, ℕ, ◌+◌, ◌<◌, ◌≤◌, List, [], ◌∷◌, ◌++◌, length, set, refl, ap}
use Rattle.std.proofs.Common.{sym, subst, arith}
use Rattle.std.specs.declared.cmp.Ordering.{Ordering}
use Rattle.std.specs.declared.cmp.Ordering.TheVariants.{Less, Equal, Greater}
use Rattle.std.specs.Ordering.{ordering_reverse}
use Rattle.std.specs.Cmp.Lexicographic.{nat_list_cmp_total}
use Rattle.std.proofs.lemmas.Bool.{cases_eq}
use Rattle.std.proofs.lemmas.Map.Lookups.{exact_bytes}
use Rattle.hdt_front.specs.Order.{string_cmp}
use Rattle.hdt_file.specs.Denoted.{string_of}
use Rattle.hdt_file.specs.File.{GraphParts}
use Rattle.hdt_file.specs.Graph.{IsGraph}
use Rattle.hdt_dict.specs.declared.dictionary.SectionId.{SectionId}
use Rattle.hdt_build.specs.declared.section_run.SectionRun.{SectionRun}
use Rattle.hdt_build.specs.Inside.Rewriting.{section_role, RetainsId, first_run_end, second_run_end, IsValidRun}
use Rattle.hdt_build.specs.Inside.Rewriting.{IsRunFrom, IsRewrittenSection, HasPrefixLength, PrefixesDecideOrder}
use Rattle.hdt_build.proofs.PrefixOrder.{last_in, tell, last_less}
use Rattle.hdt_build.proofs.RunMerging.{InWork, Ahead, turn, begun, taken, finished}
use Rattle.hdt_build.proofs.RunOrder.{kept_before, cut_before, run_up, run_apart}

greater_by : (x y : List ℕ) (o : Ordering) → string_cmp x y ≡ o → string_cmp x y ≢ Less → x ≢ y → string_cmp y x ≡ Less
greater_by x y Less e least apart = absurd (least e)
greater_by x y Equal e least apart = absurd (apart (exact_bytes x y e))
greater_by x y Greater e least apart = nat_list_cmp_total.antisymm y x ∙ ap ordering_reverse e

module _ (g : GraphParts) (h : IsGraph g) (p : SectionId) (count : ℕ) (before : List ℕ) where
  abbrev pub text : ℕ → List ℕ
  text k = string_of g (section_role p) (k + 1)

  -- what has been written, if the runs are at i and j
  abbrev pub Written : ℕ → ℕ → List (List ℕ) → List ℕ → Type 0
  Written i j strings after =
      InWork (λ k. RetainsId g p (k + 1)) text (Ahead i (first_run_end g p) j (second_run_end g p)) count strings before
      after

  pub put_begun : (one two : SectionRun) → IsRunFrom g p 0 one → IsRunFrom g p (first_run_end g p) two
      → Written one.at two.at [] before
  put_begun one two a b =
      begun (λ k. RetainsId g p (k + 1)) text count before one.at (first_run_end g p) two.at (second_run_end g p)
      (kept_before g h p) (λ k lt. a.passed k (omega arith) lt) b.passed

  module _ (one two : SectionRun) (a : IsValidRun g p one) (a_end : one.end
      ≡ first_run_end g p) (b : IsValidRun g p two) (b_end : two.end ≡ second_run_end g p) (b_from : first_run_end g p
      ≤ two.at)
      (strings : List (List ℕ)) (after : List ℕ) (work : Written one.at two.at strings after) where
    -- the current strings of the runs are greater than the string written last
    pub both_tell : one.at < one.end → two.at < two.end → HasPrefixLength (last_in strings) one
        → HasPrefixLength (last_in strings) two → PrefixesDecideOrder one two
    both_tell one_there two_there one_same two_same =
        tell (last_in strings) one two (one_same one_there) (two_same two_there)
        (λ some. subst (λ (y : List ℕ). string_cmp (last_in strings) y ≡ Less) (sym (b.here two_there).last)
        (last_less strings one.strings.last (text two.at) one.lcp
        (λ z there. work.below z there two.at (inr (omega arith, omega (arith, two_there, b_end))))
        (one_same one_there) some))
        (λ some. subst (λ (y : List ℕ). string_cmp (last_in strings) y ≡ Less) (sym (a.here one_there).last)
        (last_less strings two.strings.last (text one.at) two.lcp
        (λ z there. work.below z there one.at (inl (omega arith, omega (arith, one_there, a_end))))
        (two_same two_there) some))

    pub first_put : (new : SectionRun) (v : ℕ) → one.at < one.end
        → (two.at < two.end → string_cmp one.strings.last two.strings.last ≡ Less) → IsRunFrom g p (one.at + 1) new
        → one.at < length after → v ≡ count + (length strings + 1)
        → Written new.at two.at (strings ++ text one.at ∷ []) (set after one.at v)
    first_put new v there less next in' is =
        taken (λ k. RetainsId g p (k + 1)) text count before one.at (first_run_end g p) two.at
        (second_run_end g p) new.at v strings after work
        (a.here there).kept (omega (arith, there, a_end)) in' is next.onward next.passed
        (λ k lt to. run_up g h p one.at k lt (omega (arith, to, cut_before g h p)) (inl to)) other
      where
        other : (k : ℕ) → two.at ≤ k → k < second_run_end g p → string_cmp (text one.at) (text k) ≡ Less
        other k from to =
            let two_there : two.at < two.end = omega (arith, from, to, b_end) in
            let first : string_cmp (text one.at) (text two.at) ≡ Less =
            rw (sym (a.here there).last, sym (b.here two_there).last) (less two_there) in
            elim (cases_eq k two.at) [
              | inl same ↦ subst (λ (m : ℕ). string_cmp (text one.at) (text m) ≡ Less) (sym same) first
              | inr apart ↦ nat_list_cmp_total.trans (text one.at) (text two.at) (text k) first
                  (run_up g h p two.at k (omega (arith, from, apart)) to (inr b_from))
            ]

    pub second_put : (new : SectionRun) (v : ℕ) → two.at < two.end
        → (one.at < one.end → string_cmp one.strings.last two.strings.last ≢ Less) → IsRunFrom g p (two.at + 1) new
        → two.at < length after → v ≡ count + (length strings + 1)
        → Written one.at new.at (strings ++ text two.at ∷ []) (set after two.at v)
    second_put new v there less next in' is =
        turn (λ k. RetainsId g p (k + 1)) text count before new.at (second_run_end g p) one.at (first_run_end g p)
        (strings ++ text two.at ∷ []) (set after two.at v)
        (taken (λ k. RetainsId g p (k + 1)) text count before two.at (second_run_end g p) one.at
        (first_run_end g p) new.at v strings after
        (turn (λ k. RetainsId g p (k + 1)) text count before one.at (first_run_end g p) two.at
        (second_run_end g p) strings after work)
        (b.here there).kept (omega (arith, there, b_end)) in' is next.onward next.passed
        (λ k lt to. run_up g h p two.at k lt to (inr b_from)) other)
      where
        other : (k : ℕ) → one.at ≤ k → k < first_run_end g p → string_cmp (text two.at) (text k) ≡ Less
        other k from to =
            let one_there : one.at < one.end = omega (arith, from, to, a_end) in
            let apart = run_apart g h p one.at two.at (omega (arith, from, to, b_from)) (omega (arith, there, b_end)) in
            let least : string_cmp (text one.at) (text two.at) ≢ Less =
            rw (sym (a.here one_there).last, sym (b.here there).last) (less one_there) in
            let first : string_cmp (text two.at) (text one.at) ≡ Less =
            greater_by (text one.at) (text two.at) (string_cmp (text one.at) (text two.at)) refl least apart in
            elim (cases_eq k one.at) [
              | inl same ↦ subst (λ (m : ℕ). string_cmp (text two.at) (text m) ≡ Less) (sym same) first
              | inr later ↦ nat_list_cmp_total.trans (text two.at) (text one.at) (text k) first
                  (run_up g h p one.at k (omega (arith, from, later)) (omega (arith, to, cut_before g h p)) (inl to))
            ]

    pub all_put : one.end ≤ one.at → two.end ≤ two.at → IsRewrittenSection g p count strings before after
    all_put one_over two_over =
        finished (λ k. RetainsId g p (k + 1)) text count before strings after
        (Ahead one.at (first_run_end g p) two.at (second_run_end g p)) work over
      where
        over : (k : ℕ) → Ahead one.at (first_run_end g p) two.at (second_run_end g p) k → ⊥
        over k (inl m) = omega (arith, m.0, m.1, one_over, a_end)
        over k (inr m) = omega (arith, m.0, m.1, two_over, b_end)
