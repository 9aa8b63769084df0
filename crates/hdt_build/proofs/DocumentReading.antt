-- Reading the lines of an input, and collecting the strings of its triples.
use Rattle.std.proofs.Common.{◌≡◌, ◌≢◌, ℕ, ◌<◌, ◌≤◌, Bool, true, false, List, [], ◌∷◌, ◌++◌, ◌||◌, length, map}
use Rattle.std.proofs.Common.{Option, Some, None, ◌⊎◌, inl, inr, refl, sym, ap, subst, ◌∙◌, arith}
use Rattle.std.proofs.Common.{append_assoc, append-nil}
use Rattle.std.specs.Io.KnownBytes.{IsAtEnd, prepend_known}
use Rattle.std.specs.List.{All}
use Rattle.std.proofs.lemmas.List.{length-append, map_push}
use Rattle.std.proofs.lemmas.List.Elements.{All-push}
use Rattle.std.proofs.lemmas.List.Folds.{list_any-append}
use Rattle.hdt_dict.specs.Strings.{IsDictionaryString}
use Rattle.hdt_terms.specs.declared.fault.LineFault.{LineFault}
use Rattle.hdt_terms.specs.declared.fault.LineReason.TheVariants.{Read}
use Rattle.hdt_terms.specs.declared.triple.Triple.{Triple}
use Rattle.hdt_build.specs.declared.fault.BuildFault.{BuildFault}
use Rattle.hdt_terms.specs.Documents.{IsDocumentInput, TriplesSoFar, FaultInDocument}
use Rattle.hdt_terms.specs.Lines.{EncodesTriple}
use Rattle.hdt_terms.specs.LinesReader.{LinesState, TakesTriple, start, unread_input}
use Rattle.hdt_file.specs.Denoted.{StringTriple}
use Rattle.hdt_build.specs.Graph.{subjects_of, predicates_of, objects_of}
use Rattle.hdt_build.specs.Documents.{AddsDocument, is_blank_node, prefixed_strings, prefixed_triple}
use Rattle.hdt_build.specs.Documents.{triples_have_blank_nodes}
use Rattle.hdt_build.specs.Reading.{most, term_strings, IsInputGraph, HasDictionaryStrings, IsConvertedTo, ReadFailed}
use Rattle.hdt_build.specs.Reading.{IsBuildFaultOf}
use Rattle.hdt_build.proofs.PrefixedLabels.{unprefixed}

pub either : (b : Bool) → (b ≡ true) ⊎ (b ≡ false)
either true = inl refl
either false = inr refl

-- the triples so far, as strings with the prefix, after those before, if they are known
pub record IsReadSoFar (known : Type 0) (prefix : List ℕ) (s : LinesState) (input mid : Option (List ℕ))
    (before graph : List StringTriple) (blank : Bool) : Type 0 where
  pub triples : List Triple
  pub strings : known → graph ≡ before ++ prefixed_strings prefix triples
  pub blank_is : blank ≡ triples_have_blank_nodes triples
  pub going : s.ended ≡ false → TriplesSoFar most s input mid triples
  pub ended : s.ended ≡ true → IsDocumentInput most input triples
  pub end : s.ended ≡ true → (s.buffered ≡ []) × IsAtEnd mid

strings_more : (prefix : List ℕ) (before graph : List StringTriple) (triples : List Triple) (triple : Triple)
    (added : StringTriple) → graph ≡ before ++ prefixed_strings prefix triples
    → added ≡ term_strings (prefixed_triple prefix triple)
    → graph ++ added ∷ [] ≡ before ++ prefixed_strings prefix (triples ++ triple ∷ [])
strings_more prefix before graph triples triple added is one =
    (λ i. is i ++ one i ∷ [])
    ∙ (append_assoc before (prefixed_strings prefix triples) (term_strings (prefixed_triple prefix triple) ∷ [])
    ∙ ap (λ (l : List StringTriple). before ++ l)
    (sym (map_push (λ (t : Triple). term_strings (prefixed_triple prefix t)) triples triple)))

or_false : (b : Bool) → (b || false) ≡ b
or_false true = refl
or_false false = refl

blank_more : (triples : List Triple) (triple : Triple) (old new : Bool) → old ≡ triples_have_blank_nodes triples
    → new ≡ (old || (is_blank_node triple.s || is_blank_node triple.o))
    → new ≡ triples_have_blank_nodes (triples ++ triple ∷ [])
blank_more triples triple old new is one =
    let test : Triple → Bool = λ t. is_blank_node t.s || is_blank_node t.o in
    one ∙ (ap (λ (b : Bool). b || test triple) is
    ∙ (ap (λ (b : Bool). triples_have_blank_nodes triples || b) (sym (or_false (test triple)))
    ∙ sym (list_any-append test triples (triple ∷ []))))

-- nothing is left after a last line without a line end
nothing_left : (old new : LinesState) (x y : Option (List ℕ)) (triple : Triple) → TakesTriple old new x y triple
    → new.ended ≡ true → (new.buffered ≡ []) × IsAtEnd y
nothing_left old new x y triple t e =
    elim t.4.2.1 [ inl w ↦ absurd (let f : new.ended ≡ false = w.3 in cc) | inr w ↦ (w.2, w.3) ]

-- the reader is at its end if no bytes are buffered and none are left
pub at_end : (buffered : List ℕ) (given : Option (List ℕ)) → buffered ≡ [] → IsAtEnd (prepend_known buffered given)
    → IsAtEnd given
at_end buffered None none e = tt
at_end buffered (Some xs) none e = sym (ap (λ (ys : List ℕ). ys ++ xs) none) ∙ e

-- one more triple
pub run_on : (known : Type 0) (prefix : List ℕ) (s new : LinesState) (input mid after : Option (List ℕ))
    (before graph more : List StringTriple) (triple : Triple) (added : StringTriple) (old blank : Bool)
    → IsReadSoFar known prefix s input mid before graph old → s.ended ≡ false
    → (known → more ≡ graph ++ added ∷ [])
    → added ≡ term_strings (prefixed_triple prefix triple)
    → blank ≡ (old || (is_blank_node triple.s || is_blank_node triple.o))
    → ((triples : List Triple) → TriplesSoFar most s input mid triples → new.ended ≡ false
    → TriplesSoFar most new input after (triples ++ triple ∷ []))
    → ((triples : List Triple) → TriplesSoFar most s input mid triples → new.ended ≡ true
    → IsDocumentInput most input (triples ++ triple ∷ []))
    → TakesTriple s new mid after triple
    → IsReadSoFar known prefix new input after before more blank
run_on known prefix s new input mid after before graph more triple added old blank r still grown are has on last taken =
    record {
      triples = r.triples ++ triple ∷ [];
      strings = λ k. grown k ∙ strings_more prefix before graph r.triples triple added (r.strings k) are;
      blank_is = blank_more r.triples triple old blank r.blank_is has;
      going = λ e. on r.triples (r.going still) e;
      ended = λ e. last r.triples (r.going still) e;
      end = λ e. nothing_left s new mid after triple taken e;
    }

-- ---- strings

pub texts_more : (graph : List StringTriple) (added : StringTriple) → HasDictionaryStrings graph
    → IsDictionaryString added.0 → IsDictionaryString added.1 → IsDictionaryString added.2
    → HasDictionaryStrings (graph ++ added ∷ [])
texts_more graph added h a b c = record {
  subjects_are = subst (All IsDictionaryString) (sym (map_push (λ (t : StringTriple). t.0) graph added))
      (All-push IsDictionaryString (subjects_of graph) added.0 h.subjects_are a);
  predicates_are = subst (All IsDictionaryString) (sym (map_push (λ (t : StringTriple). t.1) graph added))
      (All-push IsDictionaryString (predicates_of graph) added.1 h.predicates_are b);
  objects_are = subst (All IsDictionaryString) (sym (map_push (λ (t : StringTriple). t.2) graph added))
      (All-push IsDictionaryString (objects_of graph) added.2 h.objects_are c);
}

-- the line of a triple that was read
pub line_of : (x y : Option (List ℕ)) (old new : LinesState) (triple : Triple) → TakesTriple old new x y triple
    → (text : List ℕ) × EncodesTriple text triple
line_of x y old new triple t = (t.4.0, t.4.1.1)

-- ---- each line with a triple has at least one byte

behind : (a b : List ℕ) → 0 < length b → 0 < length (a ++ b)
behind a b lt = omega (arith, length-append a b)

triple_some : (text : List ℕ) (triple : Triple) → EncodesTriple text triple → 0 < length text
triple_some text triple h =
    subst (λ (l : List ℕ). 0 < length l) (sym h.whole)
    (behind h.before_s _ (behind h.s _
    (behind h.before_p _ (behind h.p _
    (behind h.before_o _ (behind h.o _ (behind h.before_stop (46 ∷ h.behind) (omega arith))))))))

pub triple_size : (x y : Option (List ℕ)) (old new : LinesState) (triple : Triple) → TakesTriple old new x y triple
    → (old.taken < new.taken) × (new.taken ≤ old.limit) × (new.limit ≡ old.limit)
triple_size x y old new triple t =
    let some : 0 < length t.1 =
    elim t.4.2.1 [
      | inl w ↦ omega (arith, ap length w.2, length-append t.4.0 (w.0 ∷ []))
      | inr w ↦ subst (λ l. 0
          < length l) (sym w.0) (triple_some t.4.0 triple t.4.1.1)
    ] in
    (omega (arith, t.2.taken, length-append t.0 t.1), omega (arith, t.2.within, t.2.limit), t.2.limit)

-- ---- the start and the end of reading

pub run_begins : (known : Type 0) (prefix : List ℕ) (s : LinesState) (input : Option (List ℕ))
    (graph : List StringTriple)
    → s ≡ start most → TriplesSoFar most (start most) input (unread_input (start most) input) []
    → IsReadSoFar known prefix s input (unread_input s input) graph graph false
run_begins known prefix s input graph e h = record {
  triples = [];
  strings = λ _. sym (append-nil graph);
  blank_is = refl;
  going = λ _. subst (λ (t : LinesState). TriplesSoFar most t input (unread_input t input) []) (sym e) h;
  ended = λ end. absurd (let f : s.ended ≡ false = ap (λ (t : LinesState). t.ended) e in cc);
  end = λ end. absurd (let f : s.ended ≡ false = ap (λ (t : LinesState). t.ended) e in cc);
}

pub converted_fault : (before after : Option (List ℕ)) (fault : LineFault) (converted : BuildFault)
    → IsConvertedTo fault converted → FaultInDocument fault most before after → IsBuildFaultOf before after converted
converted_fault before after fault converted (inl e) h = subst (IsBuildFaultOf before after) (sym e.1) tt
converted_fault before after fault converted (inr e) h = subst (IsBuildFaultOf before after) (sym e.1) (h, e.0)

empty_map : (triples : List Triple) → map term_strings triples ≡ [] → triples ≡ []
empty_map [] e = refl
empty_map (t ∷ ts) e = absurd cc

-- a document that was added to nothing, with no prefix
pub input_graph : (input : Option (List ℕ)) (before graph : List StringTriple) (blank : Bool) → before ≡ []
    → AddsDocument [] input before graph blank → IsInputGraph input graph
input_graph input before graph blank none h = record {
  triples = h.triples;
  document = h.document;
  strings = h.strings ∙ (ap (λ (l : List StringTriple). l ++ prefixed_strings [] h.triples) none
      ∙ unprefixed h.triples);
}

-- an empty graph is that of a document without triples
pub no_triples : (input : Option (List ℕ)) (graph : List StringTriple) → IsInputGraph input graph → graph ≡ []
    → IsDocumentInput most input []
no_triples input graph h none =
    subst (IsDocumentInput most input) (empty_map h.triples (sym h.strings ∙ none)) h.document

-- if the error of building is not a failed read, neither is that of the line
pub not_read : (fault : LineFault) (converted : BuildFault) → IsConvertedTo fault converted → (ReadFailed converted → ⊥)
    → fault.reason ≢ Read
not_read fault converted (inl memory) unread e = absurd cc
not_read fault converted (inr line) unread e = unread (subst ReadFailed (sym line.1) e)
