-- Line ends in a buffer that grows.
use Rattle.std.proofs.Common.{◌≡◌, ℕ, ◌+◌, ◌-◌, ◌<◌, ◌≤◌, false, List, ◌++◌, length, take, drop, get_or, Option, Some}
use Rattle.std.proofs.Common.{inl, sym, ap, subst, ◌∙◌, arith, append_assoc}
use Rattle.std.proofs.lemmas.List.{length-take-le, take_all, length-drop, get_or-take, get_or-drop}
use Rattle.std.proofs.lemmas.List.Elements.{All-append, All-from_get_or}
use Rattle.std.proofs.KnownBytes.{Consumes-trans}
use Rattle.std.proofs.Math.Seq.{take-add}
use Rattle.std.proofs.lemmas.Bool.{not-true, not-false}
use Rattle.hdt_terms.proofs.Bools.{and_first}
use Rattle.hdt_terms.specs.declared.byte_runs.ByteClass.TheVariants.{NotLineEnd, AsciiNotLineEnd}
use Rattle.hdt_terms.specs.Chars.{is_line_end}
use Rattle.hdt_terms.specs.Inside.ByteRuns.{PassBetween, passes}
use Rattle.hdt_terms.specs.Lines.{HasNoLineEnd}
use Rattle.hdt_terms.specs.Inside.LineBuffer.{AppendsInput, IsFirstLineEnd, IsFirstLineLength}

pub AppendsInput-trans : (x y z : List ℕ) (a b c : Option (List ℕ)) → AppendsInput x y a b → AppendsInput y z b c
    → AppendsInput x z a c
AppendsInput-trans x y z a b c p q =
    (p.0 ++ q.0, q.1 ∙ ap (λ l. l ++ q.0) p.1 ∙ append_assoc x p.0 q.0, Consumes-trans a b c p.0 q.0 p.2 q.2)

-- ---- the first line end, if a prefix has none

module _ (bytes rest : List ℕ) (from n : ℕ) (le : from ≤ length bytes) (none : HasNoLineEnd (take from bytes))
    (is : rest ≡ drop from bytes) (within : n ≤ length rest)
    (run : PassBetween (passes NotLineEnd) rest 0 n) where
  rest_len : length rest ≡ length bytes - from
  rest_len = ap length is ∙ length-drop from bytes

  run_no_end : HasNoLineEnd (take n rest)
  run_no_end =
      All-from_get_or (λ c. is_line_end c ≡ false) (take n rest) 0
      (λ i l. let below : i < n = omega (arith, length-take-le n rest within) in
      rw get_or-take (not-true _ (run i (omega arith) below)))

  front_no_end : HasNoLineEnd (take (from + n) bytes)
  front_no_end =
      subst HasNoLineEnd (ap (λ l. take from bytes ++ take n l) is ∙ sym (take-add from n bytes))
      (All-append (λ c. is_line_end c ≡ false) (take from bytes) (take n rest) none run_no_end)

  pub end_found : (n < length rest → passes NotLineEnd (get_or rest n 0) ≡ false) → from + n < length bytes
      → IsFirstLineEnd bytes (Some (from + n))
  end_found stop lt = (
    lt,
    ap is_line_end (sym (get_or-drop from bytes n 0) ∙ ap (λ l. get_or l n 0) (sym is))
        ∙ not-false _ (stop (omega (arith, rest_len))),
    front_no_end,
  )

  pub no_end_found : length bytes ≤ from + n → HasNoLineEnd bytes
  no_end_found le' = subst HasNoLineEnd (take_all (from + n) bytes le') front_no_end

-- ---- ASCII bytes that are no line end

module _ (bytes : List ℕ) (n : ℕ) (within : n
    ≤ length bytes) (run : PassBetween (passes AsciiNotLineEnd) bytes 0 n) where
  pub ascii_no_end : HasNoLineEnd (take n bytes)
  ascii_no_end =
      All-from_get_or (λ c. is_line_end c ≡ false) (take n bytes) 0
      (λ i l. let below : i < n = omega (arith, length-take-le n bytes within) in
      rw get_or-take (not-true _ (and_first _ _ (run i (omega arith) below))))

pub found_front : (bytes : List ℕ) (n : ℕ) (after : Option (List ℕ)) → IsFirstLineEnd bytes (Some n)
    → IsFirstLineLength n bytes after
found_front bytes n after f = record { no_end = f.2; end = inl (f.0, f.1) }

-- ---- one more read into bytes without a line end
