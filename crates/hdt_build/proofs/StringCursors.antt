-- Cursors over runs of strings.
use Rattle.std.proofs.Common.{◌≡◌, ◌∙◌, ℕ, zero, suc, ◌+◌, ◌%◌, ◌^◌, ◌<◌, true, Bool, List, [], ◌∷◌, ◌++◌, length}
use Rattle.std.proofs.Common.{get_or, take, drop, ap, arith, append_assoc, sym, subst}
use Rattle.std.proofs.Math.Seq.{drop-append_seam}
use Rattle.std.proofs.lemmas.List.{length-append}
use Rattle.hdt_build.specs.declared.packed_strings.StringReader.{StringReader}
use Rattle.hdt_build.specs.declared.run_merging.RunCursor.{RunCursor}
use Rattle.hdt_build.specs.Inside.PackedStrings.{remaining_strings}
use Rattle.hdt_build.specs.Inside.SortedEntries.{IsCursorOf}
use Rattle.hdt_build.specs.Inside.TripleRuns.{joined_runs}

module _ {X : Type 0} where
  pub drop_first : (xs : List X) (at : ℕ) (d y : X) (ys : List X) → drop at xs ≡ y ∷ ys
      → (at < length xs) × (get_or xs at d ≡ y) × (drop (at + 1) xs ≡ ys)
  drop_first [] zero d y ys e = absurd cc
  drop_first [] (suc n) d y ys e = absurd cc
  drop_first (x ∷ xs) zero d y ys e =
      (omega arith, ap (λ (l : List X). get_or l 0 d) e, ap (λ (l : List X). drop 1 l) e)
  drop_first (x ∷ xs) (suc n) d y ys e =
      let r = drop_first xs n d y ys e in
      let next : suc n + 1 ≡ suc (n + 1) = omega arith in
      (omega (arith, r.0), r.1, ap (λ (k : ℕ). drop k (x ∷ xs)) next ∙ r.2)

  pub split_runs : (runs : List (List X)) (k : ℕ) (run : List X) → k < length runs → run ≡ get_or runs k run
      → joined_runs runs ≡ joined_runs (take k runs) ++ (run ++ joined_runs (drop (k + 1) runs))
  unfolding joined_runs
  split_runs [] k run lt is = absurd (omega (arith, lt))
  split_runs (r ∷ rs) zero run lt is = ap (λ (l : List X). l ++ joined_runs rs) (sym is)
  split_runs (r ∷ rs) (suc k) run lt is =
      let next : suc k + 1 ≡ suc (k + 1) = omega arith in
      ap (λ (l : List X). r ++ l) (split_runs rs k run (omega (arith, lt)) is)
      ∙ sym (append_assoc r (joined_runs (take k rs)) (run ++ joined_runs (drop (k + 1) rs)))
      ∙ ap (λ (j : ℕ). (r ++ joined_runs (take k rs)) ++ (run ++ joined_runs (drop j (r ∷ rs)))) (sym next)

  -- a run begins where those before it end
  pub run_begins : (runs : List (List X)) (k : ℕ) (run : List X) → k < length runs → run ≡ get_or runs k run
      → (others : List X) × (drop (length (joined_runs (take k runs))) (joined_runs runs) ≡ run ++ others)
  run_begins runs k run lt is = (
    joined_runs (drop (k + 1) runs),
    ap (drop (length (joined_runs (take k runs)))) (split_runs runs k run lt is)
        ∙ drop-append_seam (joined_runs (take k runs)) (run ++ joined_runs (drop (k + 1) runs)),
  )

  pub run_ends : (runs : List (List X)) (k : ℕ) (run : List X) → k < length runs → run ≡ get_or runs k run
      → length (joined_runs (take k runs)) + length run < length (joined_runs runs) + 1
  run_ends runs k run lt is =
      let rest : List X = joined_runs (drop (k + 1) runs) in
      omega (
        arith,
        ap length (split_runs runs k run lt is),
        length-append (joined_runs (take k runs)) (run ++ rest),
        length-append run rest,
      )

module _ (xs : List (List ℕ)) (c : RunCursor) (h : IsCursorOf xs c) (on : c.has_current ≡ true) where
  ahead : (c.at < length xs) × (get_or xs c.at [] ≡ c.reader.text.items)
      × (drop (c.at + 1) xs ≡ remaining_strings c.reader ++ (h.here on).0)
  ahead = drop_first xs c.at [] c.reader.text.items (remaining_strings c.reader ++ (h.here on).0) (h.here on).1

  pub stepped : (more : Bool) (reader : StringReader)
      → (more ≡ true → remaining_strings c.reader ≡ reader.text.items ∷ remaining_strings reader)
      → IsCursorOf xs (record { at = (c.at + 1) % 2 ^ 64; has_current = more; reader = reader })
  stepped more reader next = record {
    few = h.few;
    here = λ some.
        let at : c.at + 1 ≡ (c.at + 1) % 2 ^ 64 = omega (arith, ahead.0, h.few) in (
          (h.here on).0,
          subst (λ (n : ℕ). drop n xs ≡ reader.text.items ∷ (remaining_strings reader ++ (h.here on).0)) at
              (ahead.2 ∙ ap (λ (l : List (List ℕ)). l ++ (h.here on).0) (next some)),
        );
  }
