-- What `hdt explain` prints for a word.
use Rattle.std.specs.Prelude.{ℕ, Bool, ◌||◌, List, [], ◌∷◌, ◌++◌, Option, None, Some, map, codes, if◌then◌else◌}
use Rattle.std.specs.Borrow.{Bor}
use Rattle.std.specs.Str.{bytes_eq}
use Rattle.std.specs.Char.{to_ascii_lowercase}
use Rattle.hdt_usage.specs.declared.file_errors.TheConstants.{FILE_ERRORS}
use Rattle.hdt_usage.specs.declared.text_errors.TheConstants.{TEXT_ERRORS}

-- An error: its number in decimal, its name, what is wrong, what usually causes it, and what to do.
abbrev pub ExplainedError : Type 0
ExplainedError = List ℕ × List ℕ × List ℕ × List ℕ × List ℕ

-- The error of borrowed texts.
abbrev pub explained_error : Bor (List ℕ) × Bor (List ℕ) × Bor (List ℕ) × Bor (List ℕ) × Bor (List ℕ) → ExplainedError
explained_error e = (e.0.now, e.1.now, e.2.now, e.3.now, e.4.now)

-- The errors of an HDT file, and those of an N-Triples text, as docs/ERRORS.md explains them.
unfoldable pub file_explanations : List ExplainedError
file_explanations = map (λ e. (e.0.now, e.1.now, e.2.now, e.3.now, e.4.now)) FILE_ERRORS.now

unfoldable pub text_explanations : List ExplainedError
text_explanations = map (λ e. (e.0.now, e.1.now, e.2.now, e.3.now, e.4.now)) TEXT_ERRORS.now

-- Whether a word is the error's number, or its name in letters of any case.
abbrev pub is_named : List ℕ → ExplainedError → Bool
is_named word e = bytes_eq word e.0 || bytes_eq (map to_ascii_lowercase word) (map to_ascii_lowercase e.1)

-- The first error that the word names.
abbrev pub first_named : List ℕ → List ExplainedError → Option ExplainedError
first_named word [] = None
first_named word (e ∷ es) = if is_named word e then Some e else first_named word es

-- The explanation of an error, with what has it.
abbrev pub explanation_text : List ℕ → ExplainedError → List ℕ
explanation_text what e = codes "Error " ++ e.0 ++ codes " of " ++ what ++ codes ": " ++ e.1 ++ codes "\n\n" ++ e.2
    ++ codes "\n\nCause: " ++ e.3
    ++ codes "\n\nRemedy: " ++ e.4

-- A line that says which two errors a word names.
abbrev pub two_errors : ExplainedError → ExplainedError → List ℕ
two_errors file text = codes "Two errors: " ++ file.0 ++ codes " " ++ file.1 ++ codes " of an HDT file, and " ++ text.0
    ++ codes " " ++ text.1
    ++ codes " of an N-Triples text."

-- The explanations of an error of a file and of one of a text, after a line that names both.
abbrev pub both_texts : ExplainedError → ExplainedError → List ℕ
both_texts file text = two_errors file text ++ codes "\n\n" ++ explanation_text (codes "an HDT file") file
    ++ codes "\n\n"
    ++ explanation_text (codes "an N-Triples text") text

-- The explanation of an error of a file, of one of a text, or of both.
abbrev pub explanation_of_errors : Option ExplainedError → Option ExplainedError → Option (List ℕ)
explanation_of_errors None None = None
explanation_of_errors (Some file) None = Some (explanation_text (codes "an HDT file") file)
explanation_of_errors None (Some text) = Some (explanation_text (codes "an N-Triples text") text)
explanation_of_errors (Some file) (Some text) = Some (both_texts file text)

-- What `hdt explain` prints for a word, without the line feed at its end: the explanation of a file's error, and of a
-- text's error.
unfoldable pub explanation_of : List ℕ → Option (List ℕ)
explanation_of word = explanation_of_errors (first_named word file_explanations) (first_named word text_explanations)
