-- The text of triples, appended line by line.
use Rattle.std.proofs.Common.{◌≡◌, ℕ, ◌+◌, ◌<◌, drop, get_or, subst, take, List, [], ◌∷◌, ◌++◌, length, ◌≤◌, refl, sym}
use Rattle.std.proofs.Common.{ap, ◌∙◌, append_assoc, append-nil, inl, inr, arith}
use Rattle.std.specs.List.{flat_map}
use Rattle.std.proofs.lemmas.Grind.{flat_map-append}
use Rattle.std.proofs.lemmas.List.{drop_all, drop_more, length-take, take-append-drop, take-append-le, take-take}
use Rattle.std.proofs.lemmas.List.{take_all}
use Rattle.hdt_wire.specs.Control.{IsPrefixOf}
use Rattle.hdt_wire.specs.declared.Role.{Role}
use Rattle.hdt_wire.specs.declared.Role.TheVariants.{Subject, Predicate, Object}
use Rattle.hdt_triples.specs.TripleSequences.{Triple}
use Rattle.hdt_file.specs.File.{GraphParts}
use Rattle.hdt_triples.specs.Uses.{role_component}
use Rattle.hdt_file.specs.Denoted.{string_of, denoted_triple, denoted}
use Rattle.hdt_file.specs.Text.{TermTriple, IsTermOf, AreTermsOf, IsFirstNonTerm, IsTextOf, Pairwise, line}
use Rattle.hdt_file.specs.TextWriting.{AppendsLine, AppendsText, ReportsNonTermOfTriple, ReportsFirstNonTerm}
use Rattle.hdt_file.specs.declared.fault.DumpFault.{DumpFault}
use Rattle.hdt_file.specs.declared.fault.DumpFault.TheVariants.{NotATerm, Write, OutOfMemory}

-- ---- what an error leaves

-- appending keeps the prefix
kept_length : (old new : List ℕ) → IsPrefixOf old new → length old ≤ length new
kept_length old new kept = omega (arith, ap length kept, length-take (length old) new)

pub keeps_more : (old mid new more : List ℕ) → IsPrefixOf old mid → new ≡ mid ++ more → IsPrefixOf old new
keeps_more old mid new more kept grown = ap (take (length old)) grown
    ∙ take-append-le (length old) mid more (kept_length old mid kept) ∙ kept

pub keeps_kept : (old mid new : List ℕ) → IsPrefixOf old mid → IsPrefixOf mid new → IsPrefixOf old new
keeps_kept old mid new kept more = sym (take-take (length old) (length mid) new (kept_length old mid kept))
    ∙ ap (take (length old)) more ∙ kept

pub keeps_grown : (old new more : List ℕ) → new ≡ old ++ more → IsPrefixOf old new
keeps_grown old new more grown = keeps_more old old new more (take_all (length old) old (omega arith)) grown

-- ---- one line

pub are_terms : (g : GraphParts) (t : Triple) (terms : TermTriple) → IsTermOf Subject (string_of g Subject t.0) terms.0
    → IsTermOf Predicate (string_of g Predicate t.1) terms.1
    → IsTermOf Object (string_of g Object t.2) terms.2 → AreTermsOf (denoted_triple g t) terms
are_terms g t terms s p o Subject = s
are_terms g t terms s p o Predicate = p
are_terms g t terms s p o Object = o

-- ---- a line, then the text of the remaining triples

with_line : (g : GraphParts) (t : Triple) (ts : List Triple) (terms : TermTriple) (more : List ℕ)
    → AreTermsOf (denoted_triple g t) terms → IsTextOf (denoted g ts) more
    → IsTextOf (denoted g (t ∷ ts)) (line terms ++ more)
with_line g t ts terms more are h =
    record { terms = terms ∷ h.terms; each = (are, h.each); whole = ap (λ (x : List ℕ). line terms ++ x) h.whole }

line_and_text : (g : GraphParts) (t : Triple) (ts : List Triple) (old between new : List ℕ)
    → AppendsLine g t old between → AppendsText g ts between new → AppendsText g (t ∷ ts) old new
line_and_text g t ts old between new a h =
    record {
      text = line a.terms ++ h.text;
      is = with_line g t ts a.terms h.text a.are h.is;
      grown = h.grown ∙ ap (λ (x : List ℕ). x ++ h.text) a.grown ∙ append_assoc old (line a.terms) h.text;
    }

no_text : (g : GraphParts) (text : List ℕ) → AppendsText g [] text text
no_text g text = record {
  text = [];
  is = record { terms = []; each = tt; whole = refl };
  grown =
      sym (append-nil text);
}

-- an error among the remaining triples is also the error of all, if the first triple has a line
reported_after_line : (g : GraphParts) (t : Triple) (ts : List Triple) (old new : List ℕ) (e : DumpFault)
    → AppendsLine g t old new → ReportsFirstNonTerm g ts e → ReportsFirstNonTerm g (t ∷ ts) e
reported_after_line g t ts old new (NotATerm role n) a h =
    inr ((λ (other : Role). (role_component other a.terms, a.are other)), h)
reported_after_line g t ts old new (Write k) a h = h
reported_after_line g t ts old new OutOfMemory a h = tt

reported_by_line : (g : GraphParts) (t : Triple) (ts : List Triple) (e : DumpFault) → ReportsNonTermOfTriple g t e
    → ReportsFirstNonTerm g (t ∷ ts) e
reported_by_line g t ts (NotATerm role n) h = inl h
reported_by_line g t ts (Write k) h = h
reported_by_line g t ts OutOfMemory h = tt

-- ---- the text of some triples, then that of the rest

joined_terms : (g : GraphParts) (xs ys : List Triple) (ts us : List TermTriple) → Pairwise AreTermsOf (denoted g xs) ts
    → Pairwise AreTermsOf (denoted g ys) us
    → Pairwise AreTermsOf (denoted g (xs ++ ys)) (ts ++ us)
joined_terms g [] ys [] us h k = k
joined_terms g [] ys (t ∷ ts) us h k = absurd h
joined_terms g (x ∷ xs) ys [] us h k = absurd h
joined_terms g (x ∷ xs) ys (t ∷ ts) us h k = (h.0, joined_terms g xs ys ts us h.1 k)

pub joined : (g : GraphParts) (xs ys : List Triple) (a b : List ℕ) → IsTextOf (denoted g xs) a
    → IsTextOf (denoted g ys) b → IsTextOf (denoted g (xs ++ ys)) (a ++ b)
joined g xs ys a b h k =
    record {
      terms = h.terms ++ k.terms;
      each = joined_terms g xs ys h.terms k.terms h.each k.each;
      whole = ap (λ (x : List ℕ). x ++ b) h.whole ∙ ap (λ (x : List ℕ). flat_map line h.terms ++ x) k.whole
          ∙ sym (flat_map-append line h.terms k.terms);
    }

text_and_text : (g : GraphParts) (xs rest : List Triple) (old between new : List ℕ) → AppendsText g xs old between
    → AppendsText g rest between new → AppendsText g (xs ++ rest) old new
text_and_text g xs rest old between new a h =
    record {
      text = a.text ++ h.text;
      is = joined g xs rest a.text h.text a.is h.is;
      grown = h.grown ∙ ap (λ (x : List ℕ). x ++ h.text) a.grown ∙ append_assoc old a.text h.text;
    }

past_terms : (g : GraphParts) (xs rest : List Triple) (ts : List TermTriple) (role : Role) (n : ℕ)
    → Pairwise AreTermsOf (denoted g xs) ts → IsFirstNonTerm g rest role n
    → IsFirstNonTerm g (xs ++ rest) role n
past_terms g [] rest ts role n h is = is
past_terms g (x ∷ xs) rest [] role n h is = absurd h
past_terms g (x ∷ xs) rest (t ∷ ts) role n h is =
    inr ((λ (other : Role). (role_component other t, h.0 other)), past_terms g xs rest ts role n h.1 is)

reported_after_text : (g : GraphParts) (xs rest : List Triple) (old new : List ℕ) (e : DumpFault)
    → AppendsText g xs old new → ReportsFirstNonTerm g rest e → ReportsFirstNonTerm g (xs ++ rest) e
reported_after_text g xs rest old new (NotATerm role n) a h = past_terms g xs rest a.is.terms role n a.is.each h
reported_after_text g xs rest old new (Write k) a h = h
reported_after_text g xs rest old new OutOfMemory a h = tt

first_within : (g : GraphParts) (xs rest : List Triple) (role : Role) (n : ℕ) → IsFirstNonTerm g xs role n
    → IsFirstNonTerm g (xs ++ rest) role n
first_within g [] rest role n is = absurd is
first_within g (x ∷ xs) rest role n (inl is) = inl is
first_within g (x ∷ xs) rest role n (inr is) = inr (is.0, first_within g xs rest role n is.1)

reported_in_text : (g : GraphParts) (xs rest : List Triple) (e : DumpFault) → ReportsFirstNonTerm g xs e
    → ReportsFirstNonTerm g (xs ++ rest) e
reported_in_text g xs rest (NotATerm role n) h = first_within g xs rest role n h
reported_in_text g xs rest (Write k) h = h
reported_in_text g xs rest OutOfMemory h = tt

-- ---- the remaining triples

-- the text of all triples is what was appended so far and the text of the remaining ones; the error of these is that of
-- all
pub record ContinuesText (g : GraphParts) (all left : List Triple) (old now : List ℕ) : Type 0 where
  pub text : (new : List ℕ) → AppendsText g left now new → AppendsText g all old new
  pub first : (e : DumpFault) → ReportsFirstNonTerm g left e → ReportsFirstNonTerm g all e

-- by the triple at an index
pub goes_on : (g : GraphParts) (all : List Triple) (at : ℕ) (old now new : List ℕ) → at < length all
    → ContinuesText g all (drop at all) old now → AppendsLine g (get_or all at (0, 0, 0)) now new
    → ContinuesText g all (drop (at + 1) all) old new
goes_on g all at old now new lt h a =
    let k = subst (λ (left : List Triple). ContinuesText g all left old now) (drop_more all at (0, 0, 0) lt) h in
    record {
      text = λ more is. k.text more (line_and_text g (get_or all at (0, 0, 0)) (drop (at + 1) all) now new more a is);
      first = λ e is. k.first e (reported_after_line g (get_or all at (0, 0, 0)) (drop (at + 1) all) now new e a is);
    }

pub stops : (g : GraphParts) (all : List Triple) (at : ℕ) (old now : List ℕ) (e : DumpFault) → at < length all
    → ContinuesText g all (drop at all) old now → ReportsNonTermOfTriple g (get_or all at (0, 0, 0)) e
    → ReportsFirstNonTerm g all e
stops g all at old now e lt h told =
    let k = subst (λ (left : List Triple). ContinuesText g all left old now) (drop_more all at (0, 0, 0) lt) h in
    k.first e (reported_by_line g (get_or all at (0, 0, 0)) (drop (at + 1) all) e told)

pub ends : (g : GraphParts) (all : List Triple) (at : ℕ) (old now : List ℕ) → length all ≤ at
    → ContinuesText g all (drop at all) old now → AppendsText g all old now
ends g all at old now past h =
    (subst (λ (left : List Triple). ContinuesText g all left old now) (drop_all at all past) h).text now (no_text g now)

-- by the first n of the remaining triples
pub text_goes_on : (g : GraphParts) (all left : List Triple) (n : ℕ) (old now new : List ℕ)
    → ContinuesText g all left old now → AppendsText g (take n left) now new → ContinuesText g all (drop n left) old new
text_goes_on g all left n old now new h a =
    let k = subst (λ (ts : List Triple). ContinuesText g all ts old now) (sym (take-append-drop n left)) h in
    record {
      text = λ more is. k.text more (text_and_text g (take n left) (drop n left) now new more a is);
      first =
          λ e is. k.first e (reported_after_text g (take n left) (drop n left) now new e a is);
    }

pub text_stops : (g : GraphParts) (all left : List Triple) (n : ℕ) (old now : List ℕ) (e : DumpFault)
    → ContinuesText g all left old now → ReportsFirstNonTerm g (take n left) e → ReportsFirstNonTerm g all e
text_stops g all left n old now e h told =
    (subst (λ (ts : List Triple). ContinuesText g all ts old now) (sym (take-append-drop n left)) h).first e
    (reported_in_text g (take n left) (drop n left) e told)

pub text_ends : (g : GraphParts) (all left : List Triple) (old now : List ℕ) → length left ≡ 0
    → ContinuesText g all left old now → AppendsText g all old now
text_ends g all [] old now none h = h.text now (no_text g now)
text_ends g all (t ∷ ts) old now none h = absurd (omega (arith, none))
