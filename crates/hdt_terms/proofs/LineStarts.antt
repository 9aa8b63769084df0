-- A line of which the first bytes and the end are held.
use Rattle.std.proofs.Common.{◌≡◌, ◌⊎◌, ◌+◌, ◌<◌, ◌≤◌, ℕ, Bool, true, false, List, [], ◌∷◌, ◌++◌, length, take, Option}
use Rattle.std.proofs.Common.{Some, ◌||◌, cond, eqb, refl, sym, ap, subst, ◌∙◌, inl, inr, arith, append-nil}
use Rattle.std.proofs.lemmas.Bool.{cases_lt, eqb-true, lt-ltb}
use Rattle.std.proofs.lemmas.Bool.Decides.{eqb_tells}
use Rattle.std.proofs.lemmas.List.{length-append, length-take-le, take_all}
use Rattle.std.proofs.Math.Seq.{take-append_seam}
use Rattle.hdt_terms.specs.Chars.{is_line_end}
use Rattle.hdt_terms.specs.Lines.{ends_in_cr}
use Rattle.hdt_terms.specs.LinesReader.{IsTakenLineText, LinesState, Takes}
use Rattle.hdt_terms.specs.LinesTexts.{TakesLinePrefix, TakesLineStart, TakesWholeLine, last_end}
use Rattle.hdt_terms.specs.Documents.{DocumentLine}
use Rattle.hdt_terms.specs.Lint.{fault_of_line_within, faulty_lines_within, kept_if, last_faulty, numbered}
use Rattle.hdt_terms.specs.Lint.{report_if_faulty}
use Rattle.hdt_terms.specs.declared.fault.LineFault.{LineFault}
use Rattle.hdt_terms.specs.declared.fault.LineReason.TheVariants.{TooLong}
use Rattle.hdt_terms.proofs.DocumentLines.{Linted, linted_on}
use Rattle.hdt_terms.proofs.LineEndCounts.{ends_in_cr-ended}

-- ---- taking the line

or_first : (a b : Bool) → (a || b) ≡ true → b ≡ false → a ≡ true
or_first true b e f = refl
or_first false b e f = absurd (let both : true ≡ false = sym e ∙ f in cc)

end_byte : (cr : Bool) (e : ℕ) → cr ≡ eqb e 13 → is_line_end e ≡ true
    → cond {A = List ℕ} cr (13 ∷ []) (10 ∷ []) ≡ e ∷ []
end_byte true e cr is = ap (λ b. b ∷ []) (sym (eqb-true e 13 (sym cr)))
end_byte false e cr is = ap (λ b. b ∷ []) (sym (eqb-true e 10 (or_first (eqb e 10) (eqb e 13) is (sym cr))))

pub start_taken : (most n : ℕ) (s new : LinesState) (before after : Option (List ℕ)) (front bytes : List ℕ)
    → TakesLinePrefix most s new before after front → n ≡ length front → bytes ≡ front ++ last_end new
    → TakesLineStart most n s new before after bytes
start_taken most n s new before after front bytes (text, (full, takes, (no_end, inl (e, is, cut, on))), front_is) len
    bytes_is =
    let cr : new.after_cr ≡ eqb e 13 =
    takes.after_cr ∙ ap (ends_in_cr s.after_cr) cut ∙ ends_in_cr-ended s.after_cr text e in
    let end : last_end new ≡ e ∷ [] = rw on (end_byte new.after_cr e cr is) in
    record {
      text = text;
      end = e ∷ [];
      takes = subst (Takes s new before after) cut takes;
      is = (no_end, inl (e, is, refl, on));
      len = len ∙ ap length front_is;
      bytes_are = bytes_is ∙ ap (λ t. t ++ last_end new) front_is ∙ ap (λ t. take most text ++ t) end;
    }
start_taken most n s new before after front bytes
    (text, (full, takes, (no_end, inr (cut, done, empty, at_end))), front_is) len bytes_is =
    let end : last_end new ≡ [] = rw done refl in
    record {
      text = text;
      end = [];
      takes = subst (Takes s new before after) (cut ∙ sym (append-nil text)) takes;
      is = (no_end, inr (append-nil text, done, empty, at_end));
      len = len ∙ ap length front_is;
      bytes_are = bytes_is ∙ ap (λ t. t ++ last_end new) front_is ∙ ap (λ t. take most text ++ t) end;
    }

-- The complete line was consumed.
pub whole_of_start : (most n : ℕ) (s new : LinesState) (before after : Option (List ℕ)) (bytes : List ℕ)
    → (t : TakesLineStart most n s new before after bytes)
    → TakesWholeLine (length t.text) s new before after (t.text ++ t.end)
whole_of_start most n s new before after bytes t = record {
  takes = t.takes;
  is = subst (λ text. IsTakenLineText text (t.text ++ t.end) new after) (sym (take-append_seam t.text t.end)) t.is;
  within = omega (arith, length-append t.text t.end);
}

-- All of the line is held if its text cannot have more bytes.
pub whole_start : (most n : ℕ) (s new : LinesState) (before after : Option (List ℕ)) (bytes : List ℕ) → s.limit ≤ most
    → TakesLineStart most n s new before after bytes → TakesWholeLine n s new before after bytes
whole_start most n s new before after bytes room t =
    let short : length t.text ≤ most =
    omega (arith, room, t.takes.within, t.takes.taken, t.takes.limit, length-append t.text t.end) in
    let whole : take most t.text ≡ t.text = take_all most t.text short in
    let is : t.text ++ t.end ≡ bytes = sym (t.bytes_are ∙ ap (λ x. x ++ t.end) whole) in
    let count : length t.text ≡ n = sym (t.len ∙ ap length whole) in
    subst (λ k. TakesWholeLine k s new before after bytes) count
    (subst (TakesWholeLine (length t.text) s new before after) is (whole_of_start most n s new before after bytes t))

-- ---- the error of the line

abbrev pub too_long : ℕ → ℕ → LineFault
too_long longest number = record { line = number; column = longest + 1; reason = TooLong }

long_is : (longest number n : ℕ) (bytes : List ℕ) → longest < length (take n bytes)
    → fault_of_line_within longest (numbered number n bytes) ≡ Some (too_long longest number)
long_is longest number n bytes h = rw (lt-ltb longest (length (take n bytes)) h) refl

-- The line is held completely, or it is too long, and so is what is held of it.
same_or_long : (longest number n : ℕ) (text end bytes : List ℕ) → n ≡ length (take (longest + 1) text)
    → bytes ≡ take (longest + 1) text ++ end
    → (numbered number n bytes ≡ numbered number (length text) (text ++ end))
    ⊎ ((fault_of_line_within longest (numbered number n bytes) ≡ Some (too_long longest number))
    × (fault_of_line_within longest (numbered number (length text) (text ++ end))
    ≡ Some (too_long longest number)))
same_or_long longest number n text end bytes len is =
    elim (cases_lt longest (length text)) [
      | inl lt ↦
          let held = take (longest + 1) text in
          let full : length held ≡ longest + 1 = length-take-le (longest + 1) text (omega (arith, lt)) in
          let front : take n bytes ≡ held = ap (take n) is ∙ ap (λ k. take k (held ++ end)) len
          ∙ take-append_seam held end in
          inr (
            long_is longest number n bytes (omega (arith, ap length front, full)),
            long_is longest number (length text) (text ++ end)
                (omega (arith, ap length (take-append_seam text end), lt)),
          )
      | inr le ↦
          let whole : take (longest + 1) text ≡ text = take_all (longest + 1) text (omega (arith, le)) in
          inl (ap (numbered number n) (is ∙ ap (λ t. t ++ end) whole)
          ∙ ap (λ k. numbered number k (text ++ end)) (len ∙ ap length whole))
    ]

pub same_fault : (longest number n : ℕ) (text end bytes : List ℕ) → n ≡ length (take (longest + 1) text)
    → bytes ≡ take (longest + 1) text ++ end
    → fault_of_line_within longest (numbered number n bytes)
    ≡ fault_of_line_within longest (numbered number (length text) (text ++ end))
same_fault longest number n text end bytes len is =
    elim (same_or_long longest number n text end bytes len is) [
      | inl same ↦ ap (fault_of_line_within longest) same
      | inr long ↦ long.0 ∙ sym long.1
    ]

eqb_same : (n : ℕ) → eqb n n ≡ true
eqb_same n = elim (eqb_tells n n) [ inl t ↦ t.0 | inr t ↦ absurd (t.1 refl) ]

not_kept : (keep : Bool) (line : DocumentLine) → kept_if keep line.number line ≡ []
not_kept false line = refl
not_kept true line = rw (eqb_same line.number) refl

same_kept : (longest : ℕ) (keep : Bool) (number n faulty : ℕ) (text end bytes : List ℕ)
    → n ≡ length (take (longest + 1) text)
    → bytes ≡ take (longest + 1) text ++ end
    → kept_if keep (last_faulty faulty (fault_of_line_within longest (numbered number n bytes)))
    (numbered number n bytes)
    ≡ kept_if keep (last_faulty faulty (fault_of_line_within longest (numbered number (length text) (text ++ end))))
    (numbered number (length text) (text ++ end))
same_kept longest keep number n faulty text end bytes len is =
    elim (same_or_long longest number n text end bytes len is) [
      | inl same ↦ ap (λ line. kept_if keep (last_faulty faulty (fault_of_line_within longest line)) line) same
      | inr long ↦
          ap (λ fault. kept_if keep (last_faulty faulty fault) (numbered number n bytes)) long.0
          ∙ not_kept keep (numbered number n bytes)
          ∙ sym (ap (λ fault. kept_if keep (last_faulty faulty fault) (numbered number (length text) (text
          ++ end))) long.1 ∙ not_kept keep (numbered number (length text) (text ++ end)))
    ]

pub linted_start : (longest : ℕ) (keep : Bool) (lines : List DocumentLine) (number n : ℕ) (text end bytes : List ℕ)
    (a b c d : Option (List ℕ)) (kept reported new_kept new_reported : List ℕ) (faulty new_faulty : ℕ)
    → n ≡ length (take (longest + 1) text)
    → bytes ≡ take (longest + 1) text ++ end
    → Linted longest keep lines a b c d kept reported faulty
    → new_kept ≡ kept
    ++ kept_if keep (last_faulty faulty (fault_of_line_within longest (numbered number n bytes)))
    (numbered number n bytes)
    → new_reported ≡ reported ++ report_if_faulty (fault_of_line_within longest (numbered number n bytes))
    → new_faulty ≡ last_faulty faulty (fault_of_line_within longest (numbered number n bytes))
    → Linted longest keep (lines ++ numbered number (length text) (text ++ end)
    ∷ []) a b c d new_kept new_reported new_faulty
linted_start longest keep lines number n text end bytes a b c d kept reported new_kept new_reported faulty new_faulty
    len is h k t f =
    let same = same_fault longest number n text end bytes len is in
    linted_on longest keep lines (numbered number (length text) (text ++ end)) a b c d kept reported new_kept
    new_reported faulty new_faulty h
    (k ∙ ap (λ x. kept ++ x) (same_kept longest keep number n faulty text end bytes len is))
    (t ∙ ap (λ x. reported ++ report_if_faulty x) same) (f ∙ ap (last_faulty faulty) same)

pub counted_start : (longest number n one : ℕ) (text end bytes : List ℕ) → n ≡ length (take (longest + 1) text)
    → bytes ≡ take (longest + 1) text ++ end
    → one ≡ length (faulty_lines_within longest (numbered number n bytes ∷ []))
    → one ≡ length (faulty_lines_within longest (numbered number (length text) (text ++ end) ∷ []))
counted_start longest number n one text end bytes len is h =
    let same = same_fault longest number n text end bytes len is in
    h ∙ rw same refl
