-- The triples of a document are determined, and a document has no error.
use Rattle.std.proofs.Common.{◌≡◌, ℕ, ◌+◌, ◌<◌, ◌≤◌, true, false, List, [], ◌∷◌, ◌++◌, length, Option, None, Some, ◌⊎◌}
use Rattle.std.proofs.Common.{inl, inr, refl, sym, ap, subst, ◌∙◌, append_assoc, append-nil, arith}
use Rattle.std.specs.Io.KnownBytes.{Consumes, IsAtEnd}
use Rattle.std.proofs.lemmas.List.{length-append}
use Rattle.std.proofs.lemmas.List.Elements.{All-head, All-tail}
use Rattle.hdt_terms.specs.declared.fault.LineFault.{LineFault}
use Rattle.hdt_terms.specs.declared.fault.LineReason.{LineReason}
use Rattle.hdt_terms.specs.declared.fault.LineReason.TheVariants as reasons
use Rattle.hdt_terms.specs.declared.fault.TermFault.{TermFault}
use Rattle.hdt_terms.specs.declared.triple.Triple.{Triple}
use Rattle.hdt_terms.specs.Chars.{is_line_end}
use Rattle.hdt_terms.specs.Documents.{FaultInDocument}
use Rattle.hdt_terms.specs.LineParsing.{LineParseFails}
use Rattle.hdt_terms.specs.Lines.{HasNoLineEnd, Line, TerminatedLines, Document, triples_of_lines}
use Rattle.hdt_terms.specs.LinesReader.{IsLineError, IsLineTextError}

-- ---- the first line end of a text is unique

no_head : (c : ℕ) (cs : List ℕ) → HasNoLineEnd (c ∷ cs) → is_line_end c ≡ false
no_head c cs h = All-head (λ (c : ℕ). is_line_end c ≡ false) c cs h

no_tail : (c : ℕ) (cs : List ℕ) → HasNoLineEnd (c ∷ cs) → HasNoLineEnd cs
no_tail c cs h = All-tail (λ (c : ℕ). is_line_end c ≡ false) c cs h

clash : (c e : ℕ) → is_line_end c ≡ false → is_line_end e ≡ true → c ≡ e → ⊥
clash c e isnt is same = let f = ap is_line_end same in cc

heads : (a b : ℕ) (x y : List ℕ) → a ∷ x ≡ b ∷ y → a ≡ b
heads a b x y e = cc

tails : (a b : ℕ) (x y : List ℕ) → a ∷ x ≡ b ∷ y → x ≡ y
tails a b x y e = cc

cut : (a r b s : List ℕ) (e f : ℕ) → HasNoLineEnd a → is_line_end e ≡ true → HasNoLineEnd b → is_line_end f ≡ true
    → a ++ e ∷ r ≡ b ++ f ∷ s → (a ≡ b) × (r ≡ s)
cut [] r [] s e f na ye nb yf same = (refl, tails e f r s same)
cut [] r (c ∷ cs) s e f na ye nb yf same =
    absurd (clash c e (no_head c cs nb) ye (sym (heads e c r (cs ++ f ∷ s) same)))
cut (c ∷ cs) r [] s e f na ye nb yf same = absurd (clash c f (no_head c cs na) yf (heads c f (cs ++ e ∷ r) s same))
cut (c ∷ cs) r (d ∷ ds) s e f na ye nb yf same =
    let rest = cut cs r ds s e f (no_tail c cs na) ye (no_tail d ds nb) yf
    (tails c d (cs ++ e ∷ r) (ds ++ f ∷ s) same) in
    let head : c ≡ d = heads c d (cs ++ e ∷ r) (ds ++ f ∷ s) same in
    (ap (λ (x : ℕ). x ∷ cs) head ∙ ap (λ (l : List ℕ). d ∷ l) rest.0, rest.1)

-- a text without line ends is not a text with one
never : (a r b : List ℕ) (e : ℕ) → is_line_end e ≡ true → HasNoLineEnd b → a ++ e ∷ r ≡ b → ⊥
never [] r [] e ye nb same = absurd (cc)
never [] r (c ∷ cs) e ye nb same = clash c e (no_head c cs nb) ye (sym (heads e c r cs same))
never (a ∷ as') r [] e ye nb same = absurd (cc)
never (a ∷ as') r (c ∷ cs) e ye nb same = never as' r cs e ye (no_tail c cs nb) (tails a c (as' ++ e ∷ r) cs same)

-- ---- the lines of bytes

module _ (one : (text : List ℕ) (x y : Option Triple) → Line text x → Line text y → x ≡ y) where
  lines_are : (xs ys : List (Option Triple)) (front last front' last' : List ℕ) (x y : Option Triple)
      → TerminatedLines xs front → HasNoLineEnd last → Line last x → TerminatedLines ys front' → HasNoLineEnd last'
      → Line last' y
      → front ++ last ≡ front' ++ last' → xs ++ x ∷ [] ≡ ys ++ y ∷ []
  lines_are [] [] front last front' last' x y h n l h' n' l' same =
      let texts : last ≡ last' = ap (λ (f : List ℕ). f ++ last) (sym h) ∙ same ∙ ap (λ (f : List ℕ). f ++ last') h' in
      ap (λ (z : Option Triple). z ∷ []) (one last' x y (subst (λ (t : List ℕ). Line t x) texts l) l')
  lines_are [] (z ∷ ys) front last front' last' x y h n l h' n' l' same =
      absurd (never h'.0 (h'.2 ++ last') last h'.1 h'.4 n (sym (append_assoc h'.0 (h'.1 ∷ h'.2) last')
      ∙ ap (λ (f : List ℕ). f ++ last') (sym h'.3) ∙ sym same ∙ ap (λ (f : List ℕ). f ++ last) h))
  lines_are (z ∷ xs) [] front last front' last' x y h n l h' n' l' same =
      absurd (never h.0 (h.2 ++ last) last' h.1 h.4 n' (sym (append_assoc h.0 (h.1 ∷ h.2) last)
      ∙ ap (λ (f : List ℕ). f ++ last) (sym h.3) ∙ same ∙ ap (λ (f : List ℕ). f ++ last') h'))
  lines_are (z ∷ xs) (w ∷ ys) front last front' last' x y h n l h' n' l' same =
      let both : h.0 ++ h.1 ∷ (h.2 ++ last) ≡ h'.0 ++ h'.1 ∷ (h'.2 ++ last') =
      sym (append_assoc h.0 (h.1 ∷ h.2) last) ∙ ap (λ (f : List ℕ). f ++ last) (sym h.3) ∙ same
      ∙ ap (λ (f : List ℕ). f ++ last') h'.3 ∙ append_assoc h'.0 (h'.1 ∷ h'.2) last' in
      let parts = cut h.0 (h.2 ++ last) h'.0 (h'.2 ++ last') h.1 h'.1 h.5 h.4 h'.5 h'.4 both in
      let first : z ≡ w = one h'.0 z w (subst (λ (t : List ℕ). Line t z) parts.0 h.6) h'.6 in
      let rest = lines_are xs ys h.2 last h'.2 last' x y h.7 n l h'.7 n' l' parts.1 in
      ap (λ (v : Option Triple). v ∷ (xs ++ x ∷ [])) first ∙ ap (λ (l : List (Option Triple)). w ∷ l) rest

  pub one_document : (bytes : List ℕ) (ts us : List Triple) → Document bytes ts → Document bytes us → ts ≡ us
  one_document bytes ts us p q =
      p.triples_are
      ∙ ap (λ (l : List (Option Triple)). triples_of_lines l)
      (lines_are p.lines q.lines p.front p.last q.front q.last p.last_line q.last_line p.ended p.no_end p.is_line
      q.ended q.no_end q.is_line (sym p.cut ∙ q.cut))
      ∙ sym q.triples_are

-- the text of a line, which is followed by a line end or is the last one
Piece : List ℕ → List ℕ → Type 0
Piece text tail = ((e : ℕ) × (rest : List ℕ) × (is_line_end e ≡ true) × (tail ≡ text ++ e ∷ rest)) ⊎ (tail ≡ text)

-- after some lines of a document, the next piece is a valid line
piece_is : (ys : List (Option Triple)) (text tail front' last' : List ℕ) (y : Option Triple) → HasNoLineEnd text
    → Piece text tail → TerminatedLines ys front' → HasNoLineEnd last' → Line last' y
    → tail ≡ front' ++ last' → (x : Option Triple) × Line text x
unfolding Piece
piece_is [] text tail front' last' y n (inl w) h' n' l' same =
    absurd (never text w.1 last' w.0 w.2 n' (sym w.3 ∙ same ∙ ap (λ (f : List ℕ). f ++ last') h'))
piece_is [] text tail front' last' y n (inr w) h' n' l' same =
    (y, subst (λ (t : List ℕ). Line t y) (sym (sym w ∙ same ∙ ap (λ (f : List ℕ). f ++ last') h')) l')
piece_is (z ∷ ys) text tail front' last' y n (inl w) h' n' l' same =
    let both : text ++ w.0 ∷ w.1 ≡ h'.0 ++ h'.1 ∷ (h'.2 ++ last') =
    sym w.3 ∙ same ∙ ap (λ (f : List ℕ). f ++ last') h'.3 ∙ append_assoc h'.0 (h'.1 ∷ h'.2) last' in
    let parts = cut text w.1 h'.0 (h'.2 ++ last') w.0 h'.1 n w.2 h'.5 h'.4 both in
    (z, subst (λ (t : List ℕ). Line t z) (sym parts.0) h'.6)
piece_is (z ∷ ys) text tail front' last' y n (inr w) h' n' l' same =
    absurd (never h'.0 (h'.2 ++ last') text h'.1 h'.4 n (sym (append_assoc h'.0 (h'.1 ∷ h'.2) last')
    ∙ ap (λ (f : List ℕ). f ++ last') (sym h'.3) ∙ sym same ∙ w))

line_behind : (xs ys : List (Option Triple)) (front text tail front' last' : List ℕ) (y : Option Triple)
    → TerminatedLines xs front → HasNoLineEnd text → Piece text tail → TerminatedLines ys front' → HasNoLineEnd last'
    → Line last' y
    → front ++ tail ≡ front' ++ last' → (x : Option Triple) × Line text x
line_behind [] ys front text tail front' last' y h n w h' n' l' same =
    piece_is ys text tail front' last' y n w h' n' l' (ap (λ (f : List ℕ). f ++ tail) (sym h) ∙ same)
line_behind (z ∷ xs) [] front text tail front' last' y h n w h' n' l' same =
    absurd (never h.0 (h.2 ++ tail) last' h.1 h.4 n' (sym (append_assoc h.0 (h.1 ∷ h.2) tail)
    ∙ ap (λ (f : List ℕ). f ++ tail) (sym h.3) ∙ same ∙ ap (λ (f : List ℕ). f ++ last') h'))
line_behind (z ∷ xs) (v ∷ ys) front text tail front' last' y h n w h' n' l' same =
    let both : h.0 ++ h.1 ∷ (h.2 ++ tail) ≡ h'.0 ++ h'.1 ∷ (h'.2 ++ last') =
    sym (append_assoc h.0 (h.1 ∷ h.2) tail) ∙ ap (λ (f : List ℕ). f ++ tail) (sym h.3) ∙ same
    ∙ ap (λ (f : List ℕ). f ++ last') h'.3 ∙ append_assoc h'.0 (h'.1 ∷ h'.2) last' in
    let parts = cut h.0 (h.2 ++ tail) h'.0 (h'.2 ++ last') h.1 h'.1 h.5 h.4 h'.5 h'.4 both in
    line_behind xs ys h.2 text tail h'.2 last' y h.7 n w h'.7 n' l' parts.1

-- ---- a document has no error

module _ (apart : (text : List ℕ) (x : Option Triple) (fault : TermFault) → Line text x → LineParseFails text fault
    → ⊥) where
  in_text : (bytes front r : List ℕ) (ts : List Triple) (xs : List (Option Triple)) (reason : LineReason)
      (column taken limit : ℕ) → Document bytes ts → TerminatedLines xs front → bytes ≡ front ++ r
      → IsLineTextError reason column taken limit (Some r) → ⊥
  unfolding Piece
  in_text bytes front r ts xs reason column taken limit p ended is h =
      let text = h.0 in
      let line : Piece text r → (x : Option Triple) × Line text x =
      λ piece. line_behind xs p.lines front text r p.front p.last p.last_line ended h.1 piece p.ended p.no_end
      p.is_line (sym is ∙ p.cut) in
      let stop : Piece text r → ⊥ = λ piece. let l = line piece in apart text l.0 _ l.1 h.2 in
      by h.3.0 h.3.1 stop
    where
      by : (after : Option (List ℕ))
          → ((e : ℕ) × (is_line_end e ≡ true) × Consumes (Some r) after (h.0 ++ e ∷ []) × (taken + length h.0 < limit))
          ⊎ (Consumes (Some r) after h.0 × IsAtEnd after × (taken + length h.0 ≤ limit)) → (Piece h.0 r → ⊥) → ⊥
      by None (inl w) stop = absurd w.2
      by None (inr w) stop = absurd w.0
      by (Some a) (inl w) stop = stop (inl (w.0, a, w.1, w.2 ∙ append_assoc h.0 (w.0 ∷ []) a))
      by (Some a) (inr w) stop = stop (inr (w.0 ∙ ap (λ (l : List ℕ). h.0 ++ l) w.1 ∙ append-nil h.0))

  too_long : (bytes front r text past : List ℕ) (given : Option (List ℕ)) (limit : ℕ) → length bytes ≤ limit
      → bytes ≡ front ++ r → 0 < length past → length front + length text ≡ limit
      → Consumes (Some r) given (text ++ past) → ⊥
  too_long bytes front r text past None limit short is some full took = took
  too_long bytes front r text past (Some g) limit short is some full took =
      omega (
        arith,
        ap length is,
        length-append front r,
        ap length took,
        length-append (text ++ past) g,
        length-append text past,
      )

  by_reason : (bytes front r : List ℕ) (ts : List Triple) (xs : List (Option Triple)) (reason : LineReason)
      (column limit : ℕ) (given : Option (List ℕ)) → Document bytes ts → length bytes ≤ limit → TerminatedLines xs front
      → bytes ≡ front ++ r
      → IsLineError reason column (length front) limit (Some r) given → (reason ≡ reasons.Read)
      ⊎ (reason ≡ reasons.OutOfMemory)
  by_reason bytes front r ts xs reasons.Read column limit given p short ended is h = inl refl
  by_reason bytes front r ts xs reasons.OutOfMemory column limit given p short ended is h = inr refl
  by_reason bytes front r ts xs reasons.TooLong column limit given p short ended is h =
      absurd (too_long bytes front r h.1.0 h.1.1 given limit short is h.1.3 h.1.4 h.1.5)
  by_reason bytes front r ts xs reasons.Syntax column limit given p short ended is h =
      absurd (in_text bytes front r ts xs reasons.Syntax column (length front) limit p ended is h)
  by_reason bytes front r ts xs reasons.NotUtf8 column limit given p short ended is h =
      absurd (in_text bytes front r ts xs reasons.NotUtf8 column (length front) limit p ended is h)
  by_reason bytes front r ts xs reasons.BadEscape column limit given p short ended is h =
      absurd (in_text bytes front r ts xs reasons.BadEscape column (length front) limit p ended is h)
  by_reason bytes front r ts xs reasons.RelativeIri column limit given p short ended is h =
      absurd (in_text bytes front r ts xs reasons.RelativeIri column (length front) limit p ended is h)
  by_reason bytes front r ts xs reasons.IriCharacter column limit given p short ended is h =
      absurd (in_text bytes front r ts xs reasons.IriCharacter column (length front) limit p ended is h)
  by_reason bytes front r ts xs reasons.ZeroCharacter column limit given p short ended is h =
      absurd (in_text bytes front r ts xs reasons.ZeroCharacter column (length front) limit p ended is h)

  behind_front : (bytes : List ℕ) (ts : List Triple) (fault : LineFault) (limit : ℕ) (front : List ℕ)
      (xs : List (Option Triple)) (rest given : Option (List ℕ)) → Document bytes ts → length bytes ≤ limit
      → TerminatedLines xs front
      → Consumes (Some bytes) rest front → IsLineError fault.reason fault.column (length front) limit rest given
      → (fault.reason ≡ reasons.Read) ⊎ (fault.reason ≡ reasons.OutOfMemory)
  behind_front bytes ts fault limit front xs None given p short ended took h = absurd took
  behind_front bytes ts fault limit front xs (Some r) given p short ended took h =
      by_reason bytes front r ts xs fault.reason fault.column limit given p short ended took h

  -- for a document, the only errors are a failed read and out of memory
  pub no_fault : (bytes : List ℕ) (ts : List Triple) (fault : LineFault) (limit : ℕ) (given : Option (List ℕ))
      → Document bytes ts → length bytes ≤ limit → FaultInDocument fault limit (Some bytes) given
      → (fault.reason ≡ reasons.Read) ⊎ (fault.reason ≡ reasons.OutOfMemory)
  no_fault bytes ts fault limit given p short h =
      behind_front bytes ts fault limit h.front h.lines h.rest given p short h.ended h.consumed h.fault_is
