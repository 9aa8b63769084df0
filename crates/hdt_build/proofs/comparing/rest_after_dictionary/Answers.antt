use Rattle.std.proofs.Common.{◌≡◌, ◌++◌, List, ℕ, Result, Ok, Err, Option, Some, None, sym, subst}
use Rattle.std.specs.Prelude.{IfOk}
use Rattle.std.specs.declared.alloc.AllocError.{AllocError}
use Rattle.hdt_front.specs.Canonical.{canonical}
use Rattle.hdt_dict.specs.Dictionary.{SectionLists}
use Rattle.hdt_dict.specs.Strings.{BorrowedString}
use Rattle.hdt_dict.specs.Writing.{canonical_dictionary}
use Rattle.hdt_file.specs.Graph.{layout_view}
use Rattle.hdt_build.specs.Inside.Comparing.{IsRestAfter, dictionary_control}
use Rattle.hdt_build.proofs.RestOfBytes.{dictionary_is, no_part, some_part}
use Rattle.hdt_build.proofs.comparing.rest_after_dictionary.Goals as goal

module _ (b : ℕ) (d : SectionLists) (x : List ℕ) where
  abbrev after_predicates : List ℕ
  after_predicates = canonical b d.objects

  abbrev after_subjects : List ℕ
  after_subjects = canonical b d.predicates ++ after_predicates

  abbrev after_shared : List ℕ
  after_shared = canonical b d.subjects ++ after_subjects

  abbrev after_control : List ℕ
  after_control = canonical b d.shared ++ after_shared

  whole : (r : Option BorrowedString) → IsRestAfter (dictionary_control ++ after_control) x r
      → IsRestAfter (canonical_dictionary b d) x r
  whole r h = subst (λ (l : List ℕ). IsRestAfter l x r) (sym (dictionary_is b d)) h

  all_parts : (r1 r2 r3 r4 : Option BorrowedString) (m1 m2 m3 m4 : BorrowedString)
      (r : Result (Option BorrowedString) AllocError)
      → r1 ≡ Some m1 → r2 ≡ Some m2 → r3 ≡ Some m3 → r4 ≡ Some m4
      → IsRestAfter dictionary_control x r1 → IsRestAfter (canonical b d.shared) m1.now r2
      → IsRestAfter (canonical b d.subjects) m2.now r3 → IsRestAfter (canonical b d.predicates) m3.now r4
      → IfOk r (IsRestAfter (canonical b d.objects) m4.now) → IfOk r (IsRestAfter (canonical_dictionary b d) x)
  all_parts r1 r2 r3 r4 m1 m2 m3 m4 (Err e) s1 s2 s3 s4 h1 h2 h3 h4 h = tt
  all_parts r1 r2 r3 r4 m1 m2 m3 m4 (Ok r) s1 s2 s3 s4 h1 h2 h3 h4 h =
      whole r (some_part dictionary_control after_control x r1 m1 r s1 h1
      (some_part (canonical b d.shared) after_shared m1.now r2 m2 r s2 h2
      (some_part (canonical b d.subjects) after_subjects m2.now r3 m3 r s3 h3
      (some_part (canonical b d.predicates) after_predicates m3.now r4 m4 r s4 h4 h))))

pub returns-in_default : goal.returns-in_default
returns-in_default c =
    let b = c.args.block_size in
    let d = (layout_view c.args.layout.now).dictionary in
    whole b d c.args.bytes.now None (no_part dictionary_control (after_control b d c.args.bytes.now) c.args.bytes.now
    c.in_ok-rest.field-0 c.in_default.is c.in_ok-rest.ensures)

pub returns-in_default-2 : goal.returns-in_default-2
returns-in_default-2 c =
    let b = c.args.block_size in
    let d = (layout_view c.args.layout.now).dictionary in
    let x = c.args.bytes.now in
    whole b d x None (some_part dictionary_control (after_control b d x) x c.in_ok-rest.field-0 c.in-Some.rest None
    c.in-Some.is c.in_ok-rest.ensures
    (no_part (canonical b d.shared) (after_shared b d x) c.in-Some.rest.now c.in_ok-rest-2.field-0 c.in_default-2.is
    c.in_ok-rest-2.ensures))

pub returns-in_default-3 : goal.returns-in_default-3
returns-in_default-3 c =
    let b = c.args.block_size in
    let d = (layout_view c.args.layout.now).dictionary in
    let x = c.args.bytes.now in
    whole b d x None (some_part dictionary_control (after_control b d x) x c.in_ok-rest.field-0 c.in-Some.rest None
    c.in-Some.is c.in_ok-rest.ensures
    (some_part (canonical b d.shared) (after_shared b d x) c.in-Some.rest.now c.in_ok-rest-2.field-0 c.in-Some-2.rest
    None c.in-Some-2.is c.in_ok-rest-2.ensures
    (no_part (canonical b d.subjects) (after_subjects b d x) c.in-Some-2.rest.now c.in_ok-rest-3.field-0
    c.in_default-3.is c.in_ok-rest-3.ensures)))

pub returns-in_default-4 : goal.returns-in_default-4
returns-in_default-4 c =
    let b = c.args.block_size in
    let d = (layout_view c.args.layout.now).dictionary in
    let x = c.args.bytes.now in
    whole b d x None (some_part dictionary_control (after_control b d x) x c.in_ok-rest.field-0 c.in-Some.rest None
    c.in-Some.is c.in_ok-rest.ensures
    (some_part (canonical b d.shared) (after_shared b d x) c.in-Some.rest.now c.in_ok-rest-2.field-0 c.in-Some-2.rest
    None c.in-Some-2.is c.in_ok-rest-2.ensures
    (some_part (canonical b d.subjects) (after_subjects b d x) c.in-Some-2.rest.now c.in_ok-rest-3.field-0
    c.in-Some-3.rest None c.in-Some-3.is c.in_ok-rest-3.ensures
    (no_part (canonical b d.predicates) (after_predicates b d x) c.in-Some-3.rest.now c.in_ok-rest-4.field-0
    c.in_default-4.is c.in_ok-rest-4.ensures))))

pub returns : goal.returns
returns c =
    all_parts c.args.block_size (layout_view c.args.layout.now).dictionary c.args.bytes.now c.in_ok-rest.field-0
    c.in_ok-rest-2.field-0 c.in_ok-rest-3.field-0 c.in_ok-rest-4.field-0 c.in-Some.rest c.in-Some-2.rest
    c.in-Some-3.rest c.in-Some-4.rest c.rest_after_section-4.result c.in-Some.is c.in-Some-2.is c.in-Some-3.is
    c.in-Some-4.is c.in_ok-rest.ensures c.in_ok-rest-2.ensures c.in_ok-rest-3.ensures c.in_ok-rest-4.ensures
    c.rest_after_section-4.ensures
