-- Laws of the N-Triples text of triples of strings.
use Rattle.std.proofs.Common.{◌≡◌, ℕ, List, [], ◌∷◌, inl, inr, refl, sym, ap, ◌∙◌}
use Rattle.std.specs.List.{flat_map}
use Rattle.hdt_terms.specs.declared.triple.Term.{Term}
use Rattle.hdt_terms.specs.Terms.{dictionary_string, IsDictionaryTerm}
use Rattle.hdt_triples.specs.TripleSequences.{Triple}
use Rattle.hdt_wire.specs.declared.Role.{Role}
use Rattle.hdt_wire.specs.declared.Role.TheVariants.{Subject, Predicate, Object}
use Rattle.hdt_file.specs.File.{GraphParts}
use Rattle.hdt_triples.specs.Uses.{role_component}
use Rattle.hdt_file.specs.Denoted.{StringTriple, denoted_triple, denoted}
use Rattle.hdt_file.specs.Text.{TermTriple, IsTermOf, AreTermsOf, Pairwise, line, IsTextOf, IsEarlierRole}
use Rattle.hdt_file.specs.Text.{IsFirstNonTermOfTriple, IsFirstNonTerm}

-- no two dictionary terms have the same string
abbrev pub OneString : Type 0
OneString = (s t : Term) → IsDictionaryTerm s → IsDictionaryTerm t → dictionary_string s ≡ dictionary_string t → s ≡ t

module _ (one : OneString) where
  same_term : (role : Role) (string : List ℕ) (s t : Term) → IsTermOf role string s → IsTermOf role string t → s ≡ t
  same_term role string s t p q = one s t p.dictionary q.dictionary (p.is ∙ sym q.is)

  same_terms : (strings : StringTriple) (s t : TermTriple) → AreTermsOf strings s → AreTermsOf strings t → s ≡ t
  same_terms strings s t p q =
      let a : s.0 ≡ t.0 = same_term Subject strings.0 s.0 t.0 (p Subject) (q Subject) in
      let b : s.1 ≡ t.1 = same_term Predicate strings.1 s.1 t.1 (p Predicate) (q Predicate) in
      let c : s.2 ≡ t.2 = same_term Object strings.2 s.2 t.2 (p Object) (q Object) in
      ap (λ (x : Term). (x, s.1, s.2)) a ∙ ap (λ (x : Term). (t.0, x, s.2)) b ∙ ap (λ (x : Term). (t.0, t.1, x)) c

  same_lists : (triples : List StringTriple) (ss ts : List TermTriple) → Pairwise AreTermsOf triples ss
      → Pairwise AreTermsOf triples ts → ss ≡ ts
  same_lists [] [] [] p q = refl
  same_lists [] [] (t ∷ ts) p q = absurd q
  same_lists [] (s ∷ ss) ts p q = absurd p
  same_lists (x ∷ xs) [] ts p q = absurd p
  same_lists (x ∷ xs) (s ∷ ss) [] p q = absurd q
  same_lists (x ∷ xs) (s ∷ ss) (t ∷ ts) p q =
      ap (λ (y : TermTriple). y ∷ ss) (same_terms x s t p.0 q.0)
      ∙ ap (λ (ys : List TermTriple). t ∷ ys) (same_lists xs ss ts p.1 q.1)

  -- triples of strings have at most one text
  pub one_text : (triples : List StringTriple) (a b : List ℕ) → IsTextOf triples a → IsTextOf triples b → a ≡ b
  one_text triples a b p q = p.whole ∙ ap (flat_map line) (same_lists triples p.terms q.terms p.each q.each)
      ∙ sym q.whole

-- ---- triples have a text or a string that is not a term, never both

no_text : (g : GraphParts) (ts : List Triple) (terms : List TermTriple) (role : Role) (number : ℕ)
    → Pairwise AreTermsOf (denoted g ts) terms → IsFirstNonTerm g ts role number → ⊥
no_text g [] terms role number p f = f
no_text g (t ∷ ts) [] role number p f = p
no_text g (t ∷ ts) (x ∷ xs) role number p (inl f) = f.0.none (role_component role x) (p.0 role)
no_text g (t ∷ ts) (x ∷ xs) role number p (inr f) = no_text g ts xs role number p.1 f.1

pub not_both : (g : GraphParts) (ts : List Triple) (text : List ℕ) (role : Role) (number : ℕ)
    → IsTextOf (denoted g ts) text → IsFirstNonTerm g ts role number → ⊥
not_both g ts text role number h f = no_text g ts h.terms role number h.each f

-- ---- the first string that is not a term is unique

wrong : {A : Type 0} (role other : Role) (strings : StringTriple) → IsFirstNonTermOfTriple strings role
    → IsFirstNonTermOfTriple strings other → IsEarlierRole role other → A
wrong role other strings f g before = let has = g.earlier role before in absurd (f.none has.0 has.1)

same_role : (role other : Role) (strings : StringTriple) → IsFirstNonTermOfTriple strings role
    → IsFirstNonTermOfTriple strings other → role ≡ other
same_role Subject Subject x f g = refl
same_role Subject Predicate x f g = wrong Subject Predicate x f g tt
same_role Subject Object x f g = wrong Subject Object x f g tt
same_role Predicate Subject x f g = wrong Subject Predicate x g f tt
same_role Predicate Predicate x f g = refl
same_role Predicate Object x f g = wrong Predicate Object x f g tt
same_role Object Subject x f g = wrong Subject Object x g f tt
same_role Object Predicate x f g = wrong Predicate Object x g f tt
same_role Object Object x f g = refl

pub one_first : (g : GraphParts) (ts : List Triple) (role other : Role) (m n : ℕ) → IsFirstNonTerm g ts role m
    → IsFirstNonTerm g ts other n → (role ≡ other) × (m ≡ n)
one_first g [] role other m n f h = absurd f
one_first g (t ∷ ts) role other m n (inl f) (inl h) =
    let e = same_role role other (denoted_triple g t) f.0 h.0 in
    (e, f.1 ∙ ap (λ (r : Role). role_component r t) e ∙ sym h.1)
one_first g (t ∷ ts) role other m n (inl f) (inr h) = let has = h.0 role in absurd (f.0.none has.0 has.1)
one_first g (t ∷ ts) role other m n (inr f) (inl h) = let has = f.0 other in absurd (h.0.none has.0 has.1)
one_first g (t ∷ ts) role other m n (inr f) (inr h) = one_first g ts role other m n f.1 h.1
