use Rattle.std.proofs.Common.{◌≡◌, ◌++◌, List, ℕ, Bool, false, Result, Ok, Err, Option, Some, None, sym, subst}
use Rattle.std.specs.Prelude.{◌↔◌, IfOk, IsTrue}
use Rattle.std.specs.declared.alloc.AllocError.{AllocError}
use Rattle.hdt_dict.specs.Dictionary.{SectionLists}
use Rattle.hdt_dict.specs.Strings.{BorrowedString}
use Rattle.hdt_dict.specs.Writing.{canonical_dictionary}
use Rattle.hdt_triples.specs.TripleSequences.{Triple}
use Rattle.hdt_triples.specs.Writing.{canonical_triples}
use Rattle.hdt_file.specs.Graph.{layout_view}
use Rattle.hdt_build.specs.Canonical.{canonical_file, canonical_head}
use Rattle.hdt_build.specs.Inside.Comparing.{IsRestAfter}
use Rattle.hdt_build.proofs.RestOfBytes.{file_is, not_same, then_same, rest_some}
use Rattle.hdt_build.proofs.comparing.is_canonical_file.Goals as goal

module _ (header : List ℕ) (b : ℕ) (d : SectionLists) (ts : List Triple) (x : List ℕ) where
  whole : (same : Bool)
      → (IsTrue same ↔ (x ≡ canonical_head header ++ (canonical_dictionary b d ++ canonical_triples ts)))
      → IsTrue same ↔ (x ≡ canonical_file header b d ts)
  whole same h = subst (λ (l : List ℕ). IsTrue same ↔ (x ≡ l)) (sym (file_is header b d ts)) h

  no_head : (r : Option BorrowedString) → r ≡ None → IsRestAfter (canonical_head header) x r
      → IsTrue false ↔ (x ≡ canonical_file header b d ts)
  no_head r is h = whole false (not_same (canonical_head header) (canonical_dictionary b d ++ canonical_triples ts) x
      (subst (IsRestAfter (canonical_head header) x) is h))

  no_dictionary : (r s : Option BorrowedString) (m : BorrowedString) → r ≡ Some m → s ≡ None
      → IsRestAfter (canonical_head header) x r → IsRestAfter (canonical_dictionary b d) m.now s
      → IsTrue false ↔ (x ≡ canonical_file header b d ts)
  no_dictionary r s m is none h k =
      whole false (then_same (canonical_head header) (canonical_dictionary b d ++ canonical_triples ts) x m false
      (rest_some (canonical_head header) x r m is h)
      (not_same (canonical_dictionary b d) (canonical_triples ts) m.now
      (subst (IsRestAfter (canonical_dictionary b d) m.now) none k)))

  all_parts : (r s : Option BorrowedString) (m n : BorrowedString) (t : Result Bool AllocError) → r ≡ Some m
      → s ≡ Some n → IsRestAfter (canonical_head header) x r → IsRestAfter (canonical_dictionary b d) m.now s
      → IfOk t (λ same. IsTrue same ↔ (n.now ≡ canonical_triples ts))
      → IfOk t (λ same. IsTrue same ↔ (x ≡ canonical_file header b d ts))
  all_parts r s m n (Err e) is more h k l = tt
  all_parts r s m n (Ok same) is more h k l =
      whole same (then_same (canonical_head header) (canonical_dictionary b d ++ canonical_triples ts) x m same
      (rest_some (canonical_head header) x r m is h)
      (then_same (canonical_dictionary b d) (canonical_triples ts) m.now n same
      (rest_some (canonical_dictionary b d) m.now s n more k) l))

pub returns-in_default : goal.returns-in_default
returns-in_default c =
    let g = layout_view c.args.layout.now in
    no_head c.args.header.now c.args.block_size g.dictionary g.triples c.args.bytes.now c.in_ok-rest.field-0
    c.in_default.is c.in_ok-rest.ensures

pub returns-in_default-2 : goal.returns-in_default-2
returns-in_default-2 c =
    let g = layout_view c.args.layout.now in
    no_dictionary c.args.header.now c.args.block_size g.dictionary g.triples c.args.bytes.now c.in_ok-rest.field-0
    c.in_ok-rest-2.field-0 c.in-Some.rest c.in-Some.is c.in_default-2.is c.in_ok-rest.ensures c.in_ok-rest-2.ensures

pub returns : goal.returns
returns c =
    let g = layout_view c.args.layout.now in
    all_parts c.args.header.now c.args.block_size g.dictionary g.triples c.args.bytes.now c.in_ok-rest.field-0
    c.in_ok-rest-2.field-0 c.in-Some.rest c.in-Some-2.rest c.are_canonical_triples.result c.in-Some.is c.in-Some-2.is
    c.in_ok-rest.ensures c.in_ok-rest-2.ensures c.are_canonical_triples.ensures
