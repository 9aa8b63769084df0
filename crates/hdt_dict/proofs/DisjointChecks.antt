-- Merging two sections gives the result of the check that they are disjoint.
use Rattle.std.proofs.Common.{◌≡◌, ℕ, zero, suc, ◌+◌, ◌<◌, ◌||◌, not, Bool, true, false, cond, List, [], ◌∷◌, ◌++◌}
use Rattle.std.proofs.Common.{length, get_or, Option, Some, None, refl, sym, ap, ◌∙◌, arith, add-zero, zero-add}
use Rattle.std.specs.Str.{bytes_eq}
use Rattle.std.specs.Prelude.{Result}
use Rattle.std.proofs.lemmas.List.{length-map}
use Rattle.hdt_wire.specs.declared.fault.Fault.{Fault}
use Rattle.hdt_wire.specs.declared.fault.Reason.TheVariants.{SectionsOverlap}
use Rattle.hdt_wire.specs.Checks.{◌>>=◌, demand}
use Rattle.hdt_wire.specs.ItemChecks.{checks_from}
use Rattle.hdt_front.specs.declared.section.Section.{Section}
use Rattle.hdt_front.specs.Decoding.{is_block_start, decoded_string, after_entry}
use Rattle.hdt_front.specs.StringChecks.{BlockLayout, rest_offset}
use Rattle.hdt_front.specs.EntryFacts.{bytes_from_entry, string_before_entry}
use Rattle.hdt_front.specs.Laws.StringSteps.{string_is}
use Rattle.hdt_front.specs.Section.{string_offset}
use Rattle.hdt_front.specs.PackedView.{block_layout}
use Rattle.hdt_front.specs.Strings.{strings_of, section_of}
use Rattle.hdt_front.specs.Iteration.{LocatedString, located_from}
use Rattle.hdt_front.specs.Laws.Iteration.{located_are_strings}
use Rattle.hdt_front.specs.SectionIteration.{located_strings}
use Rattle.hdt_dict.specs.Strings.{has}
use Rattle.hdt_dict.specs.Inside.Overlap.{contains_string, first_offset, check_not_found, located_of, strings_before}
use Rattle.hdt_dict.specs.Dictionary.{disjoint_check, disjoint_at}

or_assoc : (a b c : Bool) → (a || (b || c)) ≡ ((a || b) || c)
or_assoc true b c = refl
or_assoc false b c = refl

pub has-append : (xs ys : List (List ℕ)) (x : List ℕ) → has (xs ++ ys) x ≡ (has xs x || has ys x)
has-append [] ys x = refl
has-append (y ∷ xs) ys x = ap (λ b. bytes_eq y x || b) (has-append xs ys x)
    ∙ or_assoc (bytes_eq y x) (has xs x) (has ys x)

-- ---- the strings of a section with their byte offsets, by ID

pub nowhere : LocatedString
nowhere = record { string = []; place = 0 }

placed_at : (p : BlockLayout) (n i j : ℕ) (bytes : List ℕ) → j < n
    → get_or (located_from p n i (string_before_entry p.block_size i bytes) (bytes_from_entry p.block_size i bytes)) j
    nowhere ≡ record {
      string = string_before_entry p.block_size (suc (i + j)) bytes;
      place =
          rest_offset p (bytes_from_entry p.block_size (i + j) bytes);
    }
unfolding located_from string_before_entry bytes_from_entry
placed_at p zero i j bytes h = absurd (omega (arith, h))
placed_at p (suc n) i zero bytes h =
    let here : LocatedString =
    record {
      string = string_before_entry p.block_size (suc i) bytes;
      place =
          rest_offset p (bytes_from_entry p.block_size i bytes);
    } in
    ap (λ k. (let x : LocatedString =
    record {
      string = string_before_entry p.block_size (suc k) bytes;
      place =
          rest_offset p (bytes_from_entry p.block_size k bytes);
    } in x)) (sym (add-zero i))
placed_at p (suc n) i (suc j) bytes h =
    let next : suc i ≡ i + 1 = omega arith in
    let k : suc i + j ≡ i + suc j = omega arith in
    ap (λ m. get_or (located_from p n m (string_before_entry p.block_size (suc i) bytes)
    (bytes_from_entry p.block_size (suc i) bytes)) j nowhere) (sym next)
    ∙ placed_at p n (suc i) j bytes (omega (arith, h))
    ∙ ap (λ m. (let x : LocatedString =
    record {
      string = string_before_entry p.block_size (suc m) bytes;
      place =
          rest_offset p (bytes_from_entry p.block_size m bytes);
    } in x)) k

length-placed : (p : BlockLayout) (n i : ℕ) (before rest : List ℕ) → length (located_from p n i before rest) ≡ n
unfolding located_from
length-placed p zero i before rest = refl
length-placed p (suc n) i before rest =
    ap suc (length-placed p n (i + 1) (decoded_string (is_block_start p.block_size i) before rest)
    (after_entry (is_block_start p.block_size i) rest))

pub many_placed : (s : Section) → length (located_strings s) ≡ length (strings_of s)
many_placed s = sym (length-map (located_strings s) (λ (p : LocatedString). p.string))
    ∙ ap length (located_are_strings s)

pub placed_is : (s : Section) (j : ℕ) → j < length (located_strings s)
    → get_or (located_strings s) j nowhere
    ≡ record { string = get_or (strings_of s) j []; place = string_offset (section_of s) j }
unfolding located_strings strings_of section_of string_offset string_before_entry bytes_from_entry
placed_is s j h =
    let p = block_layout s.packed in
    let bytes = s.packed.bytes.now in
    let lt : j < s.packed.count = omega (arith, h, length-placed p s.packed.count 0 [] bytes) in
    placed_at p s.packed.count 0 j bytes lt
    ∙ ap (λ k. (let x : LocatedString =
    record {
      string = string_before_entry p.block_size (suc k) bytes;
      place =
          rest_offset p (bytes_from_entry p.block_size k bytes);
    } in x)) (zero-add j)
    ∙ ap (λ t. (let x : LocatedString =
    record { string = t; place = rest_offset p (bytes_from_entry p.block_size j bytes) } in x))
    (sym (string_is p.block_size s.packed.count j bytes lt))

-- ---- the first string found is that of the first check that fails

met_by : (b : Bool) (place : ℕ) (r : Option ℕ) → (demand (not b) place SectionsOverlap >>= (λ _. check_not_found r))
    ≡ check_not_found (cond b (Some place) r)
met_by true place r = refl
met_by false place r = refl

rows_first : (f : List ℕ → Bool) (row : ℕ → Result (Unit {0}) Fault) (ps : List LocatedString) (k : ℕ)
    → ((j : ℕ) → j < length ps
    → row (k + j) ≡ demand (not (f (get_or ps j nowhere).string)) (get_or ps j nowhere).place SectionsOverlap)
    → checks_from row k (length ps) ≡ check_not_found (first_offset f ps)
unfolding checks_from
rows_first f row [] k h = refl
rows_first f row (p ∷ ps) k h =
    ap (λ r. r >>= (λ _. checks_from row (k + 1) (length ps))) (ap row (sym (add-zero k)) ∙ h 0 (omega arith))
    ∙ ap (λ r. demand (not (f p.string)) p.place SectionsOverlap >>= (λ _. r))
    (rows_first f row ps (k + 1) (λ j lt. let e : k + 1 + j ≡ k + suc j = omega arith in
    ap row e ∙ h (suc j) (omega (arith, lt))))
    ∙ met_by (f p.string) p.place (first_offset f ps)

section_rows : (others : List (List ℕ)) (s : Section) (f : List ℕ → Bool) → ((x : List ℕ) → f x ≡ has others x)
    → check_not_found (first_offset f (located_strings s)) ≡ disjoint_at others (section_of s)
unfolding section_of disjoint_check
section_rows others s f same =
    sym (rows_first f (disjoint_check others (section_of s)) (located_strings s) 0 (λ j lt.
    let e = placed_is s j lt in
    ap (λ k. disjoint_check others (section_of s) k) (zero-add j)
    ∙ ap (λ b. demand (not b) (string_offset (section_of s) j) SectionsOverlap)
    (sym (same (get_or (strings_of s) j [])))
    ∙ ap (λ (p : LocatedString). demand (not (f p.string)) p.place SectionsOverlap) (sym e)))
    ∙ ap (λ n. checks_from (disjoint_check others (section_of s)) 0 n) (many_placed s)

pub no_overlap : (shared : Section) (other : Option Section) (s : Section)
    → check_not_found (first_offset
    (λ x. contains_string (located_strings shared) x || contains_string (located_of other) x) (located_strings s))
    ≡ disjoint_at (strings_before shared other) (section_of s)
no_overlap shared other s =
    section_rows (strings_before shared other) s
    (λ x. contains_string (located_strings shared) x || contains_string (located_of other) x)
    (λ x. ap (λ l. has l x || contains_string (located_of other) x) (located_are_strings shared) ∙ both other x)
  where
    or_false : (b : Bool) → (b || false) ≡ b
    or_false true = refl
    or_false false = refl

    both : (other : Option Section) (x : List ℕ) → (has (strings_of shared) x || contains_string (located_of other) x)
        ≡ has (strings_before shared other) x
    both None x = or_false (has (strings_of shared) x)
    both (Some t) x = ap (λ l. has (strings_of shared) x || has l x) (located_are_strings t)
        ∙ sym (has-append (strings_of shared) (strings_of t) x)
