-- The canonical bytes of a dictionary encode it.
use Rattle.std.proofs.Common.{ℕ, ◌+◌, ◌<◌, ◌≤◌, ◌^◌, List, ◌++◌, length, eqb, not, refl}
use Rattle.std.proofs.lemmas.Bool.{eqb-false}
use Rattle.std.proofs.lemmas.List.Sums.{AllPass-from_list_all}
use Rattle.hdt_wire.specs.declared.control.Kind.TheVariants as kinds
use Rattle.hdt_wire.specs.Checks.{HasSlice}
use Rattle.hdt_wire.specs.Laws.Checks.{not-true, HasSlice-front, HasSlice-back}
use Rattle.hdt_wire.specs.Control.{HasNoZero, control, expected_control_info}
use Rattle.hdt_front.specs.Canonical.{canonical, canonical_parts}
use Rattle.hdt_front.specs.Laws.Canonical.{canonical_encoded}
use Rattle.hdt_dict.specs.Dictionary.{IsDictionaryAt, SectionLists}
use Rattle.hdt_dict.specs.Writing.{AreSections, mapping, canonical_dictionary, canonical_dictionary_parts}

-- the property text has no zero byte
pub mapping_no_zero : HasNoZero mapping
mapping_no_zero = λ k d lt. eqb-false _ _ (not-true _ (AllPass-from_list_all (λ b. not (eqb b 0)) mapping refl k d lt))

pub dictionary_encoded : (b : ℕ) (d : SectionLists) (bytes : List ℕ) (at end : ℕ) → 1 ≤ b → b < 2 ^ 64 → AreSections d
    → length bytes < 2 ^ 64 → HasSlice bytes at (canonical_dictionary b d) end
    → IsDictionaryAt (canonical_dictionary_parts b d at) bytes at
unfolding canonical_dictionary canonical_dictionary_parts canonical_parts
dictionary_encoded b d bytes at end some low are small h =
    let block : List ℕ = control kinds.Dictionary mapping in
    let s : List ℕ = canonical b d.shared in
    let u : List ℕ = canonical b d.subjects in
    let p : List ℕ = canonical b d.predicates in
    let o : List ℕ = canonical b d.objects in
    let a : ℕ = at + length block in
    let front = HasSlice-front bytes at block (s ++ (u ++ (p ++ o))) end h in
    let t1 = HasSlice-back bytes at block (s ++ (u ++ (p ++ o))) end h in
    let t2 = HasSlice-back bytes a s (u ++ (p ++ o)) end t1 in
    let t3 = HasSlice-back bytes (a + length s) u (p ++ o) end t2 in
    let t4 = HasSlice-back bytes (a + length s + length u) p o end t3 in
    record {
      control = expected_control_info kinds.Dictionary mapping at a;
      control_is = record { spelled = front; no_zero = mapping_no_zero; format = refl; properties_at = refl };
      shared = canonical_encoded b d.shared bytes a (a + length s) some low are.shared small
          (HasSlice-front bytes a s (u ++ (p ++ o)) end t1);
      subjects = canonical_encoded b d.subjects bytes (a + length s)
          (a + length s + length u) some low are.subjects small (HasSlice-front bytes (a + length s) u (p ++ o) end t2);
      predicates = canonical_encoded b d.predicates bytes (a + length s + length u)
          (a + length s + length u + length p) some low are.predicates small
          (HasSlice-front bytes (a + length s + length u) p o end t3);
      objects = canonical_encoded b d.objects bytes (a + length s + length u + length p) end some low are.objects small
          t4;
      shared_subjects = are.shared_subjects;
      shared_objects = are.shared_objects;
      subjects_objects = are.subjects_objects;
    }
