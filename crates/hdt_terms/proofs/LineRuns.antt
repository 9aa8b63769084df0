-- Collecting the lines of an input, up to its end.
use Rattle.std.proofs.Common.{◌≡◌, ℕ, Bool, true, false, List, [], ◌∷◌, ◌++◌, length, map, ◌+◌, arith, Option, None}
use Rattle.std.proofs.Common.{Some, inl, inr, sym, refl, ap, ◌∙◌, append_assoc, append-nil, add-zero}
use Rattle.std.specs.Io.KnownBytes.{IsAtEnd}
use Rattle.hdt_terms.specs.Chars.{is_line_end}
use Rattle.hdt_terms.specs.Documents.{DocumentLine, numbered_lines, AreLines, LinesSoFar}
use Rattle.hdt_terms.specs.Lines.{HasNoLineEnd, count_line_ends, ends_in_cr}
use Rattle.hdt_terms.specs.LinesReader.{LinesState, start, line_number, Takes}
use Rattle.hdt_terms.specs.LinesTexts.{TakesText}
use Rattle.hdt_terms.proofs.DocumentLines.{ended_front, last_front}
use Rattle.hdt_terms.proofs.LineEndCounts.{count_line_ends-no_end, Takes-trans}

-- ---- one line

abbrev number_and_text : DocumentLine → ℕ × List ℕ
number_and_text line = (line.number, line.text)

ended_line : (cr : Bool) (ends : ℕ) (text : List ℕ) (e : ℕ) (rest : List ℕ) → HasNoLineEnd text → is_line_end e ≡ true
    → numbered_lines cr ends (text ++ e ∷ rest) ≡ (ends + count_line_ends cr (text ++ e ∷ []), text)
    ∷ numbered_lines (ends_in_cr cr (text ++ e ∷ [])) (ends + count_line_ends cr (text ++ e ∷ [])) rest
ended_line cr ends text e rest p h = ap (map number_and_text) (ended_front cr ends text e rest p h)

last_line : (cr : Bool) (ends : ℕ) (text : List ℕ) → HasNoLineEnd text
    → numbered_lines cr ends text ≡ (ends + 1, text) ∷ []
last_line cr ends text p = ap (map number_and_text) (last_front cr ends text p)

-- ---- all lines

pub texts_on : (limit : ℕ) (s new : LinesState) (input mid after : Option (List ℕ)) (lines : List (ℕ × List ℕ))
    (text : List ℕ) → LinesSoFar limit s input mid lines → TakesText s new mid after text → new.ended ≡ false
    → LinesSoFar limit new input after (lines ++ (line_number new, text) ∷ [])
texts_on limit s new input mid after lines text r t going =
    elim t.2.1 [
      | inl w ↦
          let cut : t.0 ≡ text ++ w.0 ∷ [] = w.2 in
          let ends : new.ends ≡ s.ends + count_line_ends s.after_cr (text ++ w.0 ∷ []) =
          t.1.ends ∙ ap (λ l. s.ends + count_line_ends s.after_cr l) cut in
          let cr : new.after_cr ≡ ends_in_cr s.after_cr (text ++ w.0 ∷ []) =
          t.1.after_cr ∙ ap (ends_in_cr s.after_cr) cut in
          record {
            front = r.front ++ t.0;
            takes = Takes-trans (start limit) s new input mid after r.front t.0 r.takes t.1;
            lines_are =
                λ rest.
                ap (numbered_lines false 0) (append_assoc r.front t.0 rest) ∙ r.lines_are (t.0 ++ rest)
                ∙ ap (λ l. lines ++ numbered_lines s.after_cr s.ends l) (ap (λ l. l ++ rest) cut
                ∙ append_assoc text (w.0 ∷ []) rest)
                ∙ ap (λ l. lines ++ l) (ended_line s.after_cr s.ends text w.0 rest t.2.0 w.1)
                ∙ rw (going, ends, cr) (sym
                (append_assoc lines ((s.ends + count_line_ends s.after_cr (text ++ w.0 ∷ []), text) ∷ []) _));
          }
      | inr w ↦ absurd (cc (w.1, going))
    ]

all_lines : (limit : ℕ) (new : LinesState) (input after : Option (List ℕ)) (front : List ℕ) (lines : List (ℕ × List ℕ))
    → Takes (start limit) new input after front → IsAtEnd after → numbered_lines false 0 front ≡ lines
    → AreLines limit input lines
all_lines limit new None after front lines t end are = tt
all_lines limit new (Some bytes) None front lines t end are = absurd t.consumed
all_lines limit new (Some bytes) (Some rest) front lines t end are =
    let cut : bytes ≡ front = t.consumed ∙ ap (λ l. front ++ l) end ∙ append-nil front in
    (sym are ∙ ap (numbered_lines false 0) (sym cut), omega (arith, ap length cut, t.taken, t.within, t.limit))

pub texts_last : (limit : ℕ) (s new : LinesState) (input mid after : Option (List ℕ)) (lines : List (ℕ × List ℕ))
    (text : List ℕ) → LinesSoFar limit s input mid lines → TakesText s new mid after text → new.ended ≡ true
    → AreLines limit input (lines ++ (line_number new, text) ∷ [])
texts_last limit s new input mid after lines text r t end =
    elim t.2.1 [
      | inl w ↦ absurd (cc (w.3, end))
      | inr w ↦
          let none : count_line_ends s.after_cr text ≡ 0 = count_line_ends-no_end s.after_cr text t.2.0 in
          let ends : new.ends ≡ s.ends = t.1.ends ∙ ap (λ l. s.ends + count_line_ends s.after_cr l) w.0
          ∙ rw none (add-zero s.ends) in
          all_lines limit new input after (r.front ++ t.0) (lines ++ (line_number new, text)
          ∷ []) (Takes-trans (start limit) s new input mid after r.front t.0 r.takes t.1) w.3
          (r.lines_are t.0 ∙ ap (λ l. lines ++ numbered_lines s.after_cr s.ends l) w.0
          ∙ ap (λ l. lines ++ l) (last_line s.after_cr s.ends text t.2.0) ∙ rw (end, ends) refl)
    ]
