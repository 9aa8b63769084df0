-- The strings of a search, and the ID lines of triples.
use Rattle.std.proofs.Common.{◌≡◌, ◌≢◌, ◌≤◌, ℕ, List, [], ◌∷◌, ◌++◌, Option, None, Some, length, map, refl, sym, ap}
use Rattle.std.proofs.Common.{◌∙◌, append_assoc, arith, get_or, take}
use Rattle.std.specs.Prelude.{IsSomeAnd, MatchOption, option_map, vec_len}
use Rattle.std.specs.declared.alloc.Global.{Global}
use Rattle.std.specs.declared.vec.Vec.{Vec}
use Rattle.std.proofs.lemmas.List.{length-take, take-append-le}
use Rattle.hdt_wire.specs.Control.{IsPrefixOf}
use Rattle.hdt_dict.specs.Strings.{BorrowedString}
use Rattle.hdt_triples.specs.TripleSequences.{Triple}
use Rattle.hdt_file.specs.TextWriting.{limited}
use Rattle.hdt_tool.specs.TriplesText.{GivenStrings, AreBorrowed, numbers_line, numbers_lines}

-- An array of three elements.
three : (given : GivenStrings) (a b c : Option (Vec ℕ Global)) → length given ≡ 3
    → given ≡ get_or given 0 a ∷ get_or given 1 b ∷ get_or given 2 c ∷ []
three [] a b c n = absurd (omega arith)
three (x ∷ []) a b c n = absurd (omega arith)
three (x ∷ y ∷ []) a b c n = absurd (omega arith)
three (x ∷ y ∷ z ∷ []) a b c n = refl
three (x ∷ y ∷ z ∷ w ∷ rest) a b c n = absurd (omega arith)

-- A string as a borrowed slice.
pub lent_part : (a : Option (Vec ℕ Global)) (x : Option BorrowedString)
    → MatchOption a (x ≡ None) (λ v. IsSomeAnd x (λ y. (y.now ≡ v.items) × (length y.now ≡ vec_len v)))
    → option_map (λ s. s.now) x ≡ option_map (λ v. v.items) a
lent_part None x h = ap (option_map (λ s. s.now)) h
lent_part (Some v) None h = absurd h
lent_part (Some v) (Some y) h = ap Some h.0

pub are_lent : (given : GivenStrings) (a b c : Option (Vec ℕ Global)) (x y z : Option BorrowedString) → length given ≡ 3
    → option_map (λ s. s.now) x ≡ option_map (λ v. v.items) (get_or given 0 a)
    → option_map (λ s. s.now) y ≡ option_map (λ v. v.items) (get_or given 1 b)
    → option_map (λ s. s.now) z ≡ option_map (λ v. v.items) (get_or given 2 c) → AreBorrowed given (x ∷ y ∷ z ∷ [])
are_lent given a b c x y z n one two last =
    let whole = ap (λ (xs : GivenStrings). map (option_map (λ v. v.items)) xs) (three given a b c n) in cc

-- A triple's line is appended to the text.
pub one_line : (text new all : List ℕ) (t : Triple) (left rest : List Triple) → left ≡ t ∷ rest
    → new ≡ text ++ numbers_line t → text ++ numbers_lines left ≡ all
    → new ++ numbers_lines rest ≡ all
one_line text new all t left rest first is h =
    ap (λ (x : List ℕ). x ++ numbers_lines rest) is ∙ append_assoc text (numbers_line t) (numbers_lines rest)
    ∙ sym (ap (λ (ts : List Triple). text ++ numbers_lines ts) first) ∙ h

-- Appending a line keeps a prefix.
pub keeps_on : (old mid new line : List ℕ) → IsPrefixOf old mid → new ≡ mid ++ line → IsPrefixOf old new
keeps_on old mid new line keeps grown =
    let within : length old ≤ length mid = omega (arith, ap length keeps, length-take (length old) mid) in
    ap (take (length old)) grown ∙ take-append-le (length old) mid line within ∙ keeps

-- ---- whether there is a match

-- A count of up to one is 0 exactly if there is nothing to count.
pub some_found : (found : List Triple) → length (limited (Some 1) found) ≢ 0 → found ≢ []
some_found [] not is = not refl
some_found (t ∷ found) not is = absurd cc

pub none_found : (found : List Triple) → length (limited (Some 1) found) ≡ 0 → found ≡ []
none_found [] is = refl
none_found (t ∷ found) is = absurd cc
