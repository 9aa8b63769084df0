-- Collecting the triples of an input, line by line, up to its end or its first error.
use Rattle.std.proofs.Common.{◌≡◌, ℕ, true, false, List, [], ◌∷◌, ◌++◌, length, ◌+◌, arith, Option, None, Some, inl}
use Rattle.std.proofs.Common.{inr, sym, refl, ap, subst, ◌∙◌, append_assoc, append-nil, zero-add}
use Rattle.std.proofs.lemmas.List.Elements.{filter_map-append}
use Rattle.std.proofs.lemmas.List.{length-append}
use Rattle.std.proofs.KnownBytes.{Consumes-trans}
use Rattle.std.specs.Io.KnownBytes.{Consumes, IsAtEnd, prepend_known}
use Rattle.hdt_terms.specs.declared.fault.LineFault.{LineFault}
use Rattle.hdt_terms.specs.declared.triple.Triple.{Triple}
use Rattle.hdt_terms.specs.Documents.{IsDocumentInput, FaultInDocument, TriplesSoFar}
use Rattle.hdt_terms.specs.Lines.{HasNoLineEnd, Line, TerminatedLines, triples_of_lines, count_line_ends, ends_in_cr}
use Rattle.hdt_terms.specs.LinesReader.{LinesState, start, unread_input, Takes, TakesTriple, TakesRest}
use Rattle.hdt_terms.specs.LinesReader.{IsNextTripleError}
use Rattle.hdt_terms.specs.LinesReader.{IsLineError}
use Rattle.hdt_terms.proofs.LineEndCounts.{TerminatedLines-append, Takes-trans, count_line_ends-append}

pub nothing_taken : (all : Option (List ℕ)) → Consumes all (prepend_known [] all) []
nothing_taken None = tt
nothing_taken (Some x) = refl

pub ran_begins : (limit : ℕ) (all : Option (List ℕ)) → TriplesSoFar limit (start limit) all
    (unread_input (start limit) all) []
ran_begins limit all = record {
  front = [];
  lines = [];
  ended = refl;
  takes = record {
    consumed = nothing_taken all;
    taken = refl;
    ends = refl;
    after_cr = refl;
    within = omega arith;
    limit = refl;
    failed = refl;
  };
  triples_are = refl;
}

triples-append : (xs ys : List (Option Triple))
    → triples_of_lines (xs ++ ys) ≡ triples_of_lines xs ++ triples_of_lines ys
triples-append xs ys = filter_map-append (λ x. x) xs ys

-- one more line with a triple, and its end
pub ran_on : (limit : ℕ) (s new : LinesState) (all mid after : Option (List ℕ)) (triples : List Triple)
    (triple : Triple) → TriplesSoFar limit s all mid triples → TakesTriple s new mid after triple → new.ended ≡ false
    → TriplesSoFar limit new all after (triples ++ triple ∷ [])
ran_on limit s new all mid after triples triple r t going =
    elim t.4.2.1 [
      | inl w ↦ record {
        front = r.front ++ (t.0 ++ t.1);
        lines = r.lines ++ (t.3.lines ++ Some triple ∷ []);
        ended =
            TerminatedLines-append r.lines (t.3.lines ++ Some triple ∷ []) r.front (t.0 ++ t.1) r.ended
            (TerminatedLines-append t.3.lines (Some triple ∷ []) t.0 t.1 t.3.ended (
              t.4.0,
              w.0,
              [],
              w.2,
              w.1,
              t.4.2.0,
              t.4.1,
              refl,
            ));
        takes = Takes-trans (start limit) s new all mid after r.front (t.0 ++ t.1) r.takes t.2;
        triples_are =
            ap (λ l. l ++ triple ∷ []) r.triples_are
            ∙ ap (λ l. triples_of_lines r.lines
            ++ l) (sym (triples-append t.3.lines (Some triple ∷ []) ∙ ap (λ l. l ++ triple ∷ []) t.3.no_triples))
            ∙ sym (triples-append r.lines (t.3.lines ++ Some triple ∷ []));
      }
      | inr w ↦ absurd (cc (w.1, going))
    ]

-- the last line
finished : (limit : ℕ) (new : LinesState) (all after : Option (List ℕ)) (front last : List ℕ)
    (lines : List (Option Triple)) (x : Option Triple) (triples : List Triple)
    → Takes (start limit) new all after (front ++ last)
    → TerminatedLines lines front → HasNoLineEnd last → Line last x → IsAtEnd after
    → triples ≡ triples_of_lines (lines ++ x ∷ []) → IsDocumentInput limit all triples
finished limit new None after front last lines x triples t ended no_end line end are = tt
finished limit new (Some a) None front last lines x triples t ended no_end line end are = absurd t.consumed
finished limit new (Some a) (Some y) front last lines x triples t ended no_end line end are =
    let cut : a ≡ front ++ last = t.consumed ∙ ap (λ l. (front ++ last) ++ l) end ∙ append-nil (front ++ last) in (
      record {
        front = front;
        last = last;
        lines = lines;
        last_line = x;
        cut = cut;
        ended = ended;
        no_end = no_end;
        is_line = line;
        triples_are = are;
      },
      omega (arith, ap length cut, t.taken, t.within, t.limit),
    )

pub document_last : (limit : ℕ) (s new : LinesState) (all mid after : Option (List ℕ)) (triples : List Triple)
    (triple : Triple) → TriplesSoFar limit s all mid triples → TakesTriple s new mid after triple → new.ended ≡ true
    → IsDocumentInput limit all (triples ++ triple ∷ [])
document_last limit s new all mid after triples triple r t end =
    elim t.4.2.1 [
      | inl w ↦ absurd (cc (w.3, end))
      | inr w ↦
          finished limit new all after (r.front ++ t.0) t.1 (r.lines ++ t.3.lines) (Some triple) (triples ++ triple
          ∷ [])
          (subst (Takes (start limit) new all after) (sym (append_assoc r.front t.0 t.1))
          (Takes-trans (start limit) s new all mid after r.front (t.0 ++ t.1) r.takes t.2))
          (TerminatedLines-append r.lines t.3.lines r.front t.0 r.ended t.3.ended)
          (subst HasNoLineEnd (sym w.0) t.4.2.0) (subst (λ l. Line l (Some triple)) (sym w.0) t.4.1) w.3
          (ap (λ l. l ++ triple ∷ []) (r.triples_are ∙ sym (append-nil (triples_of_lines r.lines))
          ∙ ap (λ l. triples_of_lines r.lines ++ l) (sym t.3.no_triples) ∙ sym (triples-append r.lines t.3.lines))
          ∙ sym (triples-append (r.lines ++ t.3.lines) (Some triple ∷ [])))
    ]

pub document_rest : (limit : ℕ) (s new : LinesState) (all mid after : Option (List ℕ)) (triples : List Triple)
    → TriplesSoFar limit s all mid triples → TakesRest s new mid after → IsDocumentInput limit all triples
document_rest limit s new all mid after triples r t =
    finished limit new all after (r.front ++ t.0) t.1 (r.lines ++ t.3.lines) None triples
    (subst (Takes (start limit) new all after) (sym (append_assoc r.front t.0 t.1))
    (Takes-trans (start limit) s new all mid after r.front (t.0 ++ t.1) r.takes t.2))
    (TerminatedLines-append r.lines t.3.lines r.front t.0 r.ended t.3.ended) t.5 t.4 t.8
    (r.triples_are ∙ sym (append-nil (triples_of_lines r.lines))
    ∙ ap (λ l. triples_of_lines r.lines ++ l) (sym t.3.no_triples) ∙ sym (triples-append r.lines t.3.lines)
    ∙ sym (append-nil (triples_of_lines (r.lines ++ t.3.lines)))
    ∙ sym (triples-append (r.lines ++ t.3.lines) (None ∷ [])))

-- an error after consumed lines
pub fault_behind : (fault : LineFault) (limit : ℕ) (s : LinesState) (all mid given : Option (List ℕ))
    (triples : List Triple) → TriplesSoFar limit s all mid triples → IsNextTripleError fault s mid given
    → FaultInDocument fault limit all given
fault_behind fault limit s all mid given triples r st =
    let taken : s.taken ≡ length r.front = r.takes.taken ∙ zero-add (length r.front) in
    record {
      front = r.front ++ st.front;
      lines = r.lines ++ st.without_triples.lines;
      rest = st.rest;
      ended = TerminatedLines-append r.lines st.without_triples.lines r.front st.front r.ended st.without_triples.ended;
      consumed = Consumes-trans all mid st.rest r.front st.front r.takes.consumed st.consumed;
      line =
          st.line
          ∙ ap (λ k. k + 1) (rw (
            r.takes.ends,
            r.takes.after_cr,
          ) (ap (λ k. k + count_line_ends (ends_in_cr false r.front) st.front)
          (zero-add (count_line_ends false r.front))) ∙ sym (count_line_ends-append false r.front st.front));
      fault_is =
          subst (λ k. IsLineError fault.reason fault.column k limit st.rest given) (ap (λ k. k + length st.front) taken
          ∙ sym (length-append r.front st.front))
          (subst (λ k. IsLineError fault.reason fault.column (s.taken + length st.front) k st.rest given) r.takes.limit
          st.fault_is);
    }
