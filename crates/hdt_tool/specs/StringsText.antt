-- The output of `strings`, `string` and `number`.
use Rattle.std.specs.Prelude.{◌≡◌, ℕ, ◌+◌, List, [], ◌∷◌, ◌++◌, Some, None}
use Rattle.std.specs.Fmt.{decimal}
use Rattle.hdt_terms.specs.Strings.{IsTermOfString}
use Rattle.hdt_dict.specs.Ids.{string_at_id}
use Rattle.hdt_tool.specs.PrintedReports.{escaped}

-- A line with a string's ID, a tab and the escaped string.
abbrev pub string_line : ℕ → List ℕ → List ℕ
string_line n x = decimal n ++ 9 ∷ escaped x ++ 10 ∷ []

-- One line per string, with IDs from n on.
abbrev pub string_lines : ℕ → List (List ℕ) → List ℕ
string_lines n [] = []
string_lines n (x ∷ xs) = string_line n x ++ string_lines (n + 1) xs

-- The text is the line of the string with ID n.
pub record PrintsString (strings : List (List ℕ)) (n : ℕ) (text : List ℕ) : Type 0 where
  pub string : List ℕ
  pub found : string_at_id strings n ≡ Some string
  pub printed : text ≡ escaped string ++ 10 ∷ []

-- The text is the line with the ID of the string.
pub record PrintsNumber (strings : List (List ℕ)) (x text : List ℕ) : Type 0 where
  pub number : ℕ
  pub found : string_at_id strings number ≡ Some x
  pub printed : text ≡ decimal number ++ 10 ∷ []

-- The text has these lines, one for each ID, in order.
abbrev pub AreLinesOf : (ℕ → List ℕ → Type 0) → List ℕ → List ℕ → Type 0
AreLinesOf IsLine [] text = text ≡ []
AreLinesOf IsLine (n ∷ ns) text = (line : List ℕ) × (more : List ℕ) × IsLine n line × AreLinesOf IsLine ns more
    × (text ≡ line ++ more)

-- ID n has a string, and no term has it.
abbrev pub IsIdOfNonTerm : List (List ℕ) → ℕ → Type 0
IsIdOfNonTerm strings n = (string : List ℕ) × (string_at_id strings n ≡ Some string) × IsTermOfString string None

-- ID n is the first of these IDs without a line, since its string is not a term; those before it have lines.
pub record IsFirstWithoutLine (IsLine : ℕ → List ℕ
    → Type 0) (strings : List (List ℕ)) (ids : List ℕ) (n : ℕ) : Type 0 where
  pub before : List ℕ
  pub after : List ℕ
  pub text : List ℕ
  pub position : ids ≡ before ++ n ∷ after
  pub lines : AreLinesOf IsLine before text
  pub none : IsIdOfNonTerm strings n
