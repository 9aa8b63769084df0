-- The two runs of a role's strings: each ascends, and no string is in both.
use Rattle.std.proofs.Common.{◌≡◌, ◌≢◌, ◌∙◌, ◌⊎◌, inl, inr, ℕ, ◌+◌, ◌-◌, ◌<◌, ◌≤◌, List, [], ◌++◌, length, get_or, refl}
use Rattle.std.proofs.Common.{ap, sym, subst, arith}
use Rattle.std.specs.declared.cmp.Ordering.TheVariants.{Less}
use Rattle.std.proofs.lemmas.List.{get_or_append_left, get_or-append_right, length-append}
use Rattle.std.proofs.lemmas.List.Elements.{All-contains}
use Rattle.std.proofs.lemmas.Map.Keys.{Less-from_sorted}
use Rattle.hdt_wire.specs.declared.Role.{Role}
use Rattle.hdt_wire.specs.declared.Role.TheVariants.{Subject, Predicate, Object}
use Rattle.hdt_front.specs.Section.{AreSectionStrings}
use Rattle.hdt_dict.specs.Laws.Members.{Contains-from_map}
use Rattle.hdt_front.specs.Order.{string_cmp}
use Rattle.hdt_triples.specs.Order.{IsInRange}
use Rattle.hdt_triples.specs.Uses.{role_component, Uses}
use Rattle.hdt_file.specs.Denoted.{string_of}
use Rattle.hdt_file.specs.File.{GraphParts, role_counts}
use Rattle.hdt_file.specs.Graph.{IsGraph}
use Rattle.hdt_dict.specs.Dictionary.{role_strings}
use Rattle.hdt_dict.specs.declared.dictionary.SectionId.{SectionId}
use Rattle.hdt_dict.specs.declared.dictionary.SectionId.TheVariants as sections
use Rattle.hdt_build.specs.Inside.Rewriting.{section_role, RetainsId, first_run_end, second_run_end, string_of_id}
use Rattle.hdt_build.proofs.Distinct.{Distinct, Distinct-ascending, Distinct-append}
use Rattle.hdt_build.proofs.DenotedStrings.{all_in_range}
use Rattle.hdt_build.proofs.StringsOfIds.{in_role, term_is}

-- ---- the string at an index, from 0

term_there : (xs : List (List ℕ)) (k : ℕ) → string_of_id xs (k + 1) ≡ get_or xs k []
term_there xs k = term_is xs (k + 1) (omega arith) ∙ ap (λ (i : ℕ). get_or xs i []) (omega arith)

up_alone : (xs : List (List ℕ)) (k m : ℕ) → AreSectionStrings xs → k < m → m < length xs
    → string_cmp (string_of_id xs (k + 1)) (string_of_id xs (m + 1)) ≡ Less
up_alone xs k m h lt in' = rw (term_there xs k, term_there xs m) (Less-from_sorted string_cmp xs k m [] h.ascend lt in')

module _ (xs ys : List (List ℕ)) (k m : ℕ) where
  up_front : AreSectionStrings xs → k < m → m < length xs
      → string_cmp (string_of_id (xs ++ ys) (k + 1)) (string_of_id (xs ++ ys) (m + 1)) ≡ Less
  up_front h lt in' =
      rw (
        term_there (xs ++ ys) k,
        term_there (xs ++ ys) m,
        get_or_append_left xs ys [] k (omega (arith, lt, in')),
        get_or_append_left xs ys [] m in',
      )
      (Less-from_sorted string_cmp xs k m [] h.ascend lt in')

  up_back : AreSectionStrings ys → length xs ≤ k → k < m → m < length (xs ++ ys)
      → string_cmp (string_of_id (xs ++ ys) (k + 1)) (string_of_id (xs ++ ys) (m + 1)) ≡ Less
  up_back h from lt in' =
      rw (
        term_there (xs ++ ys) k,
        term_there (xs ++ ys) m,
        get_or-append_right xs ys (length xs) k [] refl from,
        get_or-append_right xs ys (length xs) m [] refl (omega (arith, from, lt)),
      )
      (Less-from_sorted string_cmp ys (k - length xs) (m - length xs) [] h.ascend (omega (arith, from, lt))
      (omega (arith, from, lt, in', length-append xs ys)))

  up_two : AreSectionStrings xs → AreSectionStrings ys → k < m → m < length (xs ++ ys) → (m < length xs)
      ⊎ (length xs ≤ k) → string_cmp (string_of_id (xs ++ ys) (k + 1)) (string_of_id (xs ++ ys) (m + 1)) ≡ Less
  up_two h e lt in' (inl front) = up_front h lt front
  up_two h e lt in' (inr back) = up_back e back lt in'

module _ (g : GraphParts) (h : IsGraph g) where
  -- an ID in use is that of a string
  pub used_range : (role : Role) (n : ℕ) → Uses g.triples role n
      → (1 ≤ n) × (n ≤ length (role_strings g.dictionary role))
  used_range role n used =
      let t = Contains-from_map (role_component role) g.triples n used in
      let range = All-contains (IsInRange (role_counts g.dictionary)) g.triples t.0 (all_in_range g h) t.1 in
      subst (λ (m : ℕ). (1 ≤ m)
      × (m ≤ length (role_strings g.dictionary role))) t.2 (in_role g.dictionary role t.0 range)

  pub distinct : (role : Role) → Distinct (role_strings g.dictionary role)
  distinct Subject = Distinct-append g.dictionary.shared g.dictionary.subjects h.shared_subjects
      (Distinct-ascending _ h.shared.ascend) (Distinct-ascending _ h.subjects.ascend)
  distinct Predicate = Distinct-ascending _ h.predicates.ascend
  distinct Object = Distinct-append g.dictionary.shared g.dictionary.objects h.shared_objects
      (Distinct-ascending _ h.shared.ascend) (Distinct-ascending _ h.objects.ascend)

  -- ---- the two runs of a section

  pub kept_used : (p : SectionId) (n : ℕ) → RetainsId g p n → Uses g.triples (section_role p) n
  kept_used sections.Shared n k = k.1
  kept_used sections.Subjects n k = k.0
  kept_used sections.Predicates n k = k
  kept_used sections.Objects n k = k.0

  pub kept_before : (p : SectionId) (k : ℕ) → RetainsId g p (k + 1) → k < second_run_end g p
  kept_before sections.Shared k keep = omega (arith, keep.0)
  kept_before sections.Subjects k keep = omega (arith, (used_range Subject (k + 1) keep.0).1)
  kept_before sections.Predicates k keep = omega (arith, (used_range Predicate (k + 1) keep).1)
  kept_before sections.Objects k keep = omega (arith, (used_range Object (k + 1) keep.0).1)

  pub cut_before : (p : SectionId) → first_run_end g p ≤ second_run_end g p
  cut_before sections.Shared = omega arith
  cut_before sections.Subjects = omega (arith, length-append g.dictionary.shared g.dictionary.subjects)
  cut_before sections.Predicates = omega arith
  cut_before sections.Objects = omega (arith, length-append g.dictionary.shared g.dictionary.objects)

  pub end_within : (p : SectionId) → second_run_end g p ≤ length (role_strings g.dictionary (section_role p))
  end_within sections.Shared = omega (arith, length-append g.dictionary.shared g.dictionary.subjects)
  end_within sections.Subjects = omega arith
  end_within sections.Predicates = omega arith
  end_within sections.Objects = omega arith

  pub run_up : (p : SectionId) (k m : ℕ) → k < m → m < second_run_end g p → (m < first_run_end g p)
      ⊎ (first_run_end g p ≤ k)
      → string_cmp (string_of g (section_role p) (k + 1)) (string_of g (section_role p) (m + 1)) ≡ Less
  run_up sections.Shared k m lt in' side = up_front g.dictionary.shared g.dictionary.subjects k m h.shared lt in'
  run_up sections.Subjects k m lt in' side =
      up_two g.dictionary.shared g.dictionary.subjects k m h.shared h.subjects lt in' side
  run_up sections.Predicates k m lt in' side = up_alone g.dictionary.predicates k m h.predicates lt in'
  run_up sections.Objects k m lt in' side =
      up_two g.dictionary.shared g.dictionary.objects k m h.shared h.objects lt in' side

  pub run_apart : (p : SectionId) (k m : ℕ) → k < m → m < second_run_end g p
      → string_of g (section_role p) (k + 1) ≢ string_of g (section_role p) (m + 1)
  run_apart p k m lt in' same =
      let all = role_strings g.dictionary (section_role p) in
      let within = end_within p in
      let one = (distinct (section_role p)).one k m (omega (arith, lt, in', within)) (omega (arith, in', within))
      (sym (term_there all k) ∙ (same ∙ term_there all m)) in
      absurd (omega (arith, one, lt))
