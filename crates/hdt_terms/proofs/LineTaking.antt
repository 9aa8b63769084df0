-- What one line consumes of the remaining input, and the errors of a line.
use Rattle.std.proofs.Common.{◌≡◌, ℕ, ◌+◌, ◌-◌, ◌<◌, ◌≤◌, Bool, true, false, cond, List, [], ◌∷◌, ◌++◌, length, take}
use Rattle.std.proofs.Common.{drop, get_or, Option, None, Some, Ok, Err, inl, inr, sym, refl, ap, subst, ◌∙◌, arith}
use Rattle.std.proofs.Common.{append_assoc, append-nil, take-append-drop}
use Rattle.std.proofs.lemmas.Bool.{lt-ltb, le-ltb}
use Rattle.std.proofs.lemmas.List.{length-take-le, length-drop, take_all, take_more}
use Rattle.std.proofs.Math.Seq.{drop-length, take-length}
use Rattle.std.proofs.KnownBytes.{Consumes-nil, prepend_known-nil}
use Rattle.std.specs.Prelude.{IsUtf8}
use Rattle.std.specs.Io.KnownBytes.{Consumes, Keeps, IsAtEnd, prepend_known}
use Rattle.hdt_terms.specs.declared.fault.LineFault.{LineFault}
use Rattle.hdt_terms.specs.declared.fault.LineReason.{LineReason}
use Rattle.hdt_terms.specs.declared.fault.LineReason.TheVariants.{Syntax, NotUtf8, BadEscape, RelativeIri, IriCharacter}
use Rattle.hdt_terms.specs.declared.fault.LineReason.TheVariants.{ZeroCharacter, Read, OutOfMemory, TooLong}
use Rattle.hdt_terms.specs.Chars.{is_line_end}
use Rattle.hdt_terms.specs.Inside.LineBuffer.{AppendsInput, IsFirstLineLength, BuffersLine}
use Rattle.hdt_terms.specs.LineParsing.{is_blank_or_comment}
use Rattle.hdt_terms.specs.Lines.{HasNoLineEnd, LinesWithoutTriples}
use Rattle.hdt_terms.specs.LinesReader.{LinesState, IsTakenLineText, unread_input, take_bytes, take_line, Takes}
use Rattle.hdt_terms.specs.LinesReader.{BeginsWithLine}
use Rattle.hdt_terms.specs.LinesReader.{IsLineError, IsNextTripleError, IsTripleLineError, ChecksLine}
use Rattle.hdt_terms.proofs.LineSoundness.{line_fault}

-- ---- the remaining input

-- the buffer and what the reader gave precede what it still gives
left_grew : (buffered more : List ℕ) (given given' : Option (List ℕ)) → Consumes given given' more
    → Consumes (prepend_known buffered given) given' (buffered ++ more)
left_grew buffered more None given' p = tt
left_grew buffered more (Some x) None p = absurd p
left_grew buffered more (Some x) (Some y) p = ap (λ l. buffered ++ l) p ∙ sym (append_assoc buffered more y)

-- reading into the buffer keeps the remaining input
pub left_kept : (buffered new : List ℕ) (given given' : Option (List ℕ)) → AppendsInput buffered new given given'
    → Keeps (prepend_known buffered given) (prepend_known new given')
left_kept buffered new None given' p = tt
left_kept buffered new (Some x) None p = absurd p.2
left_kept buffered new (Some x) (Some y) p = ap (λ l. l ++ y) p.1 ∙ append_assoc buffered p.0 y
    ∙ ap (λ l. buffered ++ l) (sym p.2)

-- consuming the front of the buffer after a read
pub left_front : (buffered new front rest : List ℕ) (given given' : Option (List ℕ))
    → AppendsInput buffered new given given' → new ≡ front ++ rest
    → Consumes (prepend_known buffered given) (prepend_known rest given') front
left_front buffered new front rest None given' p e = tt
left_front buffered new front rest (Some x) None p e = absurd p.2
left_front buffered new front rest (Some x) (Some y) p e = sym (left_kept buffered new (Some x) (Some y) p)
    ∙ ap (λ l. l ++ y) e ∙ append_assoc front rest y

pub AppendsInput-same : (buffered : List ℕ) (given : Option (List ℕ)) → AppendsInput buffered buffered given given
AppendsInput-same buffered given = ([], sym (append-nil buffered), Consumes-nil given)

-- ---- a complete line

module _ (buffered h : List ℕ) (given given' : Option (List ℕ)) (n taken limit : ℕ)
    (grew : AppendsInput buffered h given given') (front : IsFirstLineLength n h given') (within : taken + length h
    ≤ limit) where
  pub whole_line : BeginsWithLine taken limit (prepend_known buffered given) (take n h)
  whole_line =
      elim front.end [
        | inl p ↦
            let lt : n < length h = p.0 in
            let cut : h ≡ (take n h ++ get_or h n 0 ∷ []) ++ drop (n + 1) h =
            sym (ap (λ l. l ++ drop (n + 1) h) (sym (take_more h n 0 lt)) ∙ take-append-drop (n + 1) h) in (
              prepend_known (drop (n + 1) h) given',
              inl (
                get_or h n 0,
                p.1,
                left_front buffered h (take n h ++ get_or h n 0
                    ∷ []) (drop (n + 1) h) given given' grew cut,
                omega (arith, length-take-le n h (omega (arith, lt))),
              ),
            )
        | inr p ↦
            let all : take n h ≡ h = ap (λ k. take k h) p.0 ∙ take-length h in (
              given',
              inr (
                subst (Consumes (prepend_known buffered given) given') (sym (all ∙ grew.1))
                    (left_grew buffered grew.0 given given' grew.2),
                p.1,
                omega (arith, ap length all),
              ),
            )
      ]

-- ---- a line is consumed

-- the line of this text and these bytes is consumed, with its end or as the last one
abbrev pub LineTaken : LinesState → LinesState → List ℕ → List ℕ → Option (List ℕ) → Option (List ℕ) → Type 0
LineTaken old new text bytes before after = Takes old new before after bytes × IsTakenLineText text bytes new after

module _ (old : LinesState) (h : List ℕ) (n : ℕ) (given given' : Option (List ℕ))
    (grew : AppendsInput old.buffered h given given') (no_end : HasNoLineEnd (take n h)) (within : old.taken + length h
    ≤ old.limit)
    (going : old.ended ≡ false) where
  -- the first bytes of the buffer after the read are consumed
  pub takes_front : (m : ℕ) (b : Bool) → m ≤ length h
      → Takes old (record (take_bytes (record old { buffered = h }) m) { ended = b }) (unread_input old given)
      (prepend_known (drop m h) given') (take m h)
  takes_front m b le = record {
    consumed = left_front old.buffered h (take m h) (drop m h) given given' grew (sym (take-append-drop m h));
    taken = ap (λ k. old.taken + k) (sym (length-take-le m h le));
    ends = refl;
    after_cr = refl;
    within = omega (arith, length-drop m h);
    limit = refl;
    failed = refl;
  }

  pub ended_taken : n < length h → is_line_end (get_or h n 0) ≡ true
      → LineTaken old (take_bytes (record old { buffered = h }) (n + 1)) (take n h) (take (n + 1) h)
      (unread_input old given)
      (prepend_known (drop (n + 1) h) given')
  ended_taken lt end = (
    takes_front (n + 1) old.ended (omega (arith, lt)),
    (no_end, inl (get_or h n 0, end, take_more h n 0 lt, going)),
  )

  last_taken : n ≡ length h → IsAtEnd given'
      → LineTaken old (record (take_bytes (record old { buffered = h }) n) { ended = true }) (take n h) (take (n + 1) h)
      (unread_input old given) (prepend_known (drop n h) given')
  last_taken all end =
      let none : drop n h ≡ [] = ap (λ k. drop k h) all ∙ drop-length h in
      let same : take (n + 1) h ≡ take n h = take_all (n + 1) h (omega (arith, all))
      ∙ sym (take_all n h (omega (arith, all))) in (
        rw same (takes_front n true (omega (arith, all))),
        (no_end, inr (same, refl, none, rw none (rw prepend_known-nil end))),
      )

pub line_taken : (old : LinesState) (h : List ℕ) (n : ℕ) (given given' : Option (List ℕ))
    → AppendsInput old.buffered h given given' → IsFirstLineLength n h given' → old.taken + length h ≤ old.limit
    → old.ended ≡ false
    → LineTaken old (take_line (record old { buffered = h }) n) (take n h) (take (n + 1) h) (unread_input old given)
    (unread_input (take_line (record old { buffered = h }) n) given')
line_taken old h n given given' grew front within going =
    elim front.end [
      | inl p ↦
          subst (λ (new : LinesState). LineTaken old new (take n h) (take (n + 1) h) (unread_input old given)
          (unread_input new given'))
          (sym (ap (λ b. cond b (take_bytes (record old { buffered = h }) (n + 1))
          (record (take_bytes (record old { buffered = h }) n) { ended = true })) (lt-ltb n (length h) p.0)))
          (ended_taken old h n given given' grew front.no_end within going p.0 p.1)
      | inr p ↦
          subst (λ (new : LinesState). LineTaken old new (take n h) (take (n + 1) h) (unread_input old given)
          (unread_input new given'))
          (sym (ap (λ b. cond b (take_bytes (record old { buffered = h }) (n + 1))
          (record (take_bytes (record old { buffered = h }) n) { ended = true }))
          (le-ltb n (length h) (omega (arith, p.0)))))
          (last_taken old h n given given' grew front.no_end within going p.0 p.1)
    ]

-- ---- errors

-- a read that fails, or that exceeds the limit
pub stands_unread : (r : LineReason) (buffered new : List ℕ) (given given' : Option (List ℕ)) (taken limit : ℕ)
    → taken ≤ limit → BuffersLine (Err r) buffered new given given' (limit - taken)
    → IsLineError r 0 taken limit (prepend_known buffered given) given'
stands_unread Syntax buffered new given given' taken limit le p = absurd p
stands_unread NotUtf8 buffered new given given' taken limit le p = absurd p
stands_unread BadEscape buffered new given given' taken limit le p = absurd p
stands_unread RelativeIri buffered new given given' taken limit le p = absurd p
stands_unread IriCharacter buffered new given given' taken limit le p = absurd p
stands_unread ZeroCharacter buffered new given given' taken limit le p = absurd p
stands_unread OutOfMemory buffered new given given' taken limit le p = (
  refl,
  inl (
    new,
    p.1,
    subst (Consumes (prepend_known buffered given) given') (sym p.0.1)
        (left_grew buffered p.0.0 given given' p.0.2),
    omega (arith, p.2),
  ),
)
stands_unread Read buffered new given given' taken limit le p = (
  refl,
  (
    new,
    p.1,
    subst (Consumes (prepend_known buffered given) given') (sym p.0.1)
        (left_grew buffered p.0.0 given given' p.0.2),
    omega (arith, p.2),
  ),
)
stands_unread TooLong buffered new given given' taken limit le p =
    let grew = p.0 in (
      refl,
      (
        new,
        grew.1,
        p.1,
        grew.3,
        omega (arith, p.2),
        subst (Consumes (prepend_known buffered given) given') (sym (append_assoc buffered grew.0 grew.1)
            ∙ ap (λ l. l ++ grew.1) (sym grew.2))
            (left_grew buffered (grew.0 ++ grew.1) given given' grew.4),
      ),
    )

-- the error of a line that is not bare
pub stands_in_triple : (r : LineReason) (column taken limit : ℕ) (before given : Option (List ℕ)) (text : List ℕ)
    → IsUtf8 text → is_blank_or_comment text ≡ false → HasNoLineEnd text → BeginsWithLine taken limit before text
    → IsTripleLineError r column text → IsLineError r column taken limit before given
stands_in_triple Syntax column taken limit before given text utf8 some no_end w f =
    (text, no_end, line_fault text _ utf8 some f, w)
stands_in_triple NotUtf8 column taken limit before given text utf8 some no_end w f =
    (text, no_end, line_fault text _ utf8 some f, w)
stands_in_triple BadEscape column taken limit before given text utf8 some no_end w f =
    (text, no_end, line_fault text _ utf8 some f, w)
stands_in_triple RelativeIri column taken limit before given text utf8 some no_end w f =
    (text, no_end, line_fault text _ utf8 some f, w)
stands_in_triple IriCharacter column taken limit before given text utf8 some no_end w f =
    (text, no_end, line_fault text _ utf8 some f, w)
stands_in_triple ZeroCharacter column taken limit before given text utf8 some no_end w f =
    (text, no_end, line_fault text _ utf8 some f, w)
stands_in_triple OutOfMemory column taken limit before given text utf8 some no_end w f =
    (f, inr (text, no_end, some, w))
stands_in_triple Read column taken limit before given text utf8 some no_end w f = absurd f
stands_in_triple TooLong column taken limit before given text utf8 some no_end w f = absurd f

-- lines without a triple, then the line of the error
pub stands_behind : (fault : LineFault) (old s : LinesState) (before mid given : Option (List ℕ)) (front : List ℕ)
    → Takes old s before mid front → LinesWithoutTriples front → fault.line ≡ s.ends + 1
    → IsLineError fault.reason fault.column s.taken s.limit mid given → IsNextTripleError fault old before given
stands_behind fault old s before mid given front t bare line h = record {
  front = front;
  rest = mid;
  without_triples = bare;
  consumed = t.consumed;
  line = line ∙ ap (λ k. k + 1) t.ends;
  fault_is = rw (sym t.taken, sym t.limit) h;
}

-- ---- a line that was buffered and consumed

pub line_held : (s buffered new : LinesState) (given given' : Option (List ℕ)) (n most : ℕ)
    → BuffersLine (Ok n) s.buffered buffered.buffered given given' most
    → buffered ≡ record s { buffered = buffered.buffered } → s.taken + length buffered.buffered ≤ s.limit
    → s.ended ≡ false → new ≡ take_line buffered n
    → LineTaken s new (take n buffered.buffered) (take (n + 1) buffered.buffered) (unread_input s given)
    (unread_input new given')
line_held s buffered new given given' n most filled others within going is =
    subst (λ (t : LinesState). LineTaken s t (take n buffered.buffered) (take (n + 1) buffered.buffered)
    (unread_input s given)
    (unread_input t given')) (sym (is ∙ ap (λ (x : LinesState). take_line x n) others))
    (line_taken s buffered.buffered n given given' filled.0 filled.1 within going)

module _ (a s buffered new : LinesState) (before given given' : Option (List ℕ)) (n most : ℕ) (front : List ℕ)
    (takes : Takes a s before (unread_input s given) front) (bare : LinesWithoutTriples front)
    (filled : BuffersLine (Ok n) s.buffered buffered.buffered given given' most) (others : buffered
    ≡ record s { buffered = buffered.buffered }) (within : s.taken + length buffered.buffered ≤ s.limit) where
  pub look_fault : (fault : LineFault) → ChecksLine (Err fault) buffered (take n buffered.buffered)
      → IsNextTripleError fault a before given'
  look_fault fault h =
      stands_behind fault a s before (unread_input s given) given' front takes bare (h.0
      ∙ ap (λ (x : LinesState). x.ends + 1) others)
      (subst (λ r. IsLineError r fault.column s.taken s.limit (unread_input s given) given') (sym h.1) (
        take n buffered.buffered,
        filled.1.no_end,
        h.2,
        whole_line s.buffered buffered.buffered given given' n s.taken s.limit filled.0 filled.1 within,
      ))

  pub held_taken : s.ended ≡ false → new ≡ take_line buffered n
      → LineTaken s new (take n buffered.buffered) (take (n + 1) buffered.buffered) (unread_input s given)
      (unread_input new given')
  held_taken going is = line_held s buffered new given given' n most filled others within going is
