-- Results after lines without a triple: a triple, the end or an error.
use Rattle.std.proofs.Common.{◌≡◌, ℕ, true, false, List, [], ◌∷◌, ◌++◌, ◌+◌, take, Option, None, Some, Ok, inl, inr}
use Rattle.std.proofs.Common.{sym, refl, subst}
use Rattle.hdt_terms.specs.declared.fault.LineFault.{LineFault}
use Rattle.hdt_terms.specs.declared.triple.Triple.{Triple}
use Rattle.hdt_terms.specs.LineParsing.{line_triple}
use Rattle.hdt_terms.specs.Lines.{HasNoLineEnd, Line, LinesWithoutTriples}
use Rattle.hdt_terms.specs.LinesReader.{LinesState, unread_input, take_line, Takes, IsTakenLine, TakesTriple, TakesRest}
use Rattle.hdt_terms.specs.LinesReader.{IsNextTripleError, FindsTripleLine, IsTripleLineError}
use Rattle.hdt_terms.proofs.LineEndCounts.{LinesWithoutTriples-append, Takes-trans}
use Rattle.hdt_terms.proofs.LineSoundness.{line_found}
use Rattle.hdt_terms.proofs.LineTaking.{AppendsInput-same, LineTaken, line_taken, whole_line, stands_in_triple}
use Rattle.hdt_terms.proofs.LineTaking.{stands_behind}

-- one line without a triple
one_bare : (bytes : List ℕ) (new : LinesState) (after : Option (List ℕ)) → IsTakenLine bytes None new after
    → new.ended ≡ false → LinesWithoutTriples bytes
one_bare bytes new after p going =
    elim p.2.1 [
      | inl w ↦ record { lines = None ∷ []; ended = (p.0, w.0, [], w.2, w.1, p.2.0, p.1, refl); no_triples = refl }
      | inr w ↦ absurd (cc (w.1, going))
    ]

module _ (a s new : LinesState) (before mid after : Option (List ℕ)) (front text bytes : List ℕ)
    (takes : Takes a s before mid front) (bare : LinesWithoutTriples front)
    (taken : LineTaken s new text bytes mid after) (line : Line text None) where
  -- the last line
  pub rest_taken : new.ended ≡ true → TakesRest a new before after
  rest_taken end =
      elim taken.1.1 [
        | inl w ↦ absurd (cc (w.3, end))
        | inr w ↦ (
          front,
          bytes,
          Takes-trans a s new before mid after front bytes takes taken.0,
          bare,
          subst (λ l. Line l None) (sym w.0) line,
          subst HasNoLineEnd (sym w.0) taken.1.0,
          end,
          w.2,
          w.3,
        )
      ]

  -- one more line
  pub bare_taken : new.ended ≡ false → (all : List ℕ) × Takes a new before after all × LinesWithoutTriples all
  bare_taken going = (
    front ++ bytes,
    Takes-trans a s new before mid after front bytes takes taken.0,
    LinesWithoutTriples-append front bytes bare (one_bare bytes new after (text, line, taken.1) going),
  )

-- ---- a line with a triple is buffered

module _ (a s : LinesState) (before given : Option (List ℕ)) (n : ℕ)
    (found : FindsTripleLine (Ok (Some n)) a s before (unread_input s given) given) where
  pub ready_fault : (fault : LineFault) → (fault.line ≡ s.ends + 1)
      × IsTripleLineError fault.reason fault.column (take n s.buffered) → IsNextTripleError fault a before given
  ready_fault fault h =
      let ready = found.3 in
      stands_behind fault a s before (unread_input s given) given found.0 found.1 found.2 h.0
      (stands_in_triple fault.reason fault.column s.taken s.limit (unread_input s given) given
      (take n s.buffered) ready.utf8 ready.triple ready.front.no_end
      (whole_line s.buffered s.buffered given given n s.taken s.limit
      (AppendsInput-same s.buffered given) ready.front found.1.within) h.1)

  pub ready_taken : (new : LinesState) (triple : Triple) → new ≡ take_line s n
      → line_triple (take n s.buffered) ≡ Ok triple → TakesTriple a new before (unread_input new given) triple
  ready_taken new triple is e =
      let ready = found.3 in
      let bytes = take (n + 1) s.buffered in
      let taken : LineTaken s new (take n s.buffered) bytes (unread_input s given) (unread_input new given) =
      subst (λ (t : LinesState). LineTaken s t (take n s.buffered) bytes (unread_input s given)
      (unread_input t given)) (sym is)
      (line_taken s s.buffered n given given
      (AppendsInput-same s.buffered given) ready.front found.1.within ready.going) in (
        found.0,
        bytes,
        Takes-trans a s new before (unread_input s given) (unread_input new given) found.0 bytes found.1 taken.0,
        found.2,
        (take n s.buffered, line_found (take n s.buffered) triple ready.utf8 e, taken.1),
      )
