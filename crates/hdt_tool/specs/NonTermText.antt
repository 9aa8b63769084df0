-- The output of `find` and `dump` with `--skip-non-terms`, and of `verify --terms`, with the number of the triples or
-- strings that have no form in N-Triples.
use Rattle.std.specs.Prelude.{◌≡◌, ℕ, Bool, true, false, List, [], ◌∷◌, ◌++◌, length}
use Rattle.std.specs.Fmt.{decimal}
use Rattle.std.specs.List.{flat_map}
use Rattle.hdt_triples.specs.TripleSequences.{Triple}
use Rattle.hdt_file.specs.File.{GraphParts}
use Rattle.hdt_file.specs.NonTerms.{IsTermVerdict}
use Rattle.hdt_file.specs.Writable.{SkipsNonTerms}
use Rattle.hdt_file.specs.Tight.{IsTightLayout}
use Rattle.hdt_file.specs.declared.non_terms.NonTerm.{NonTerm}
use Rattle.hdt_file.specs.declared.non_terms.TermVerdict.{TermVerdict}
use Rattle.hdt_usage.specs.CommandTable.{role_name}
use Rattle.hdt_tool.specs.TriplesText.{FindsWith, PrintsTriples, Query}
use Rattle.hdt_tool.specs.PrintedReports.{verdict}
use Rattle.hdt_tool.specs.declared.request.OutputFormat.{OutputFormat}
use Rattle.hdt_tool.specs.declared.request.OutputFormat.TheVariants.{NTriples, Count}

-- The output format with and without `--count`.
abbrev pub kept_format : Bool → OutputFormat
kept_format false = NTriples
kept_format true = Count

-- The text of the triples with the given strings that have a line, up to the limit; n without one were skipped.
abbrev pub PrintsKept : GraphParts → Query → List ℕ → ℕ → Type 0
PrintsKept g asked text n =
    FindsWith g asked.given (λ found. (kept : List Triple) × SkipsNonTerms g asked.most found kept n
    × PrintsTriples asked.format g kept text)

-- The line of a string that is not a term: its role, its ID and its byte offset, separated by tabs.
abbrev pub non_term_line : NonTerm → List ℕ
non_term_line t = role_name t.role ++ 9 ∷ (decimal t.number ++ 9 ∷ (decimal t.place ++ 10 ∷ []))

-- A line for each string that is not a term, or the line of `verify` if there is none.
abbrev pub term_verdict_lines : List ℕ → List NonTerm → List ℕ
term_verdict_lines counts [] = verdict counts
term_verdict_lines counts (t ∷ ts) = flat_map non_term_line (t ∷ ts)

-- The bytes encode a file, which is tight if that is asked; the text has the strings that are not terms, which are n,
-- or the file's counts.
pub record PrintsTermVerdict (tight : Bool) (bytes text : List ℕ) (n : ℕ) : Type 0 where
  pub verdict_of : TermVerdict
  pub is : IsTermVerdict bytes verdict_of
  pub tight_is : tight ≡ true → (graph : GraphParts) × IsTightLayout bytes graph
  pub printed : text ≡ term_verdict_lines verdict_of.counts verdict_of.non_terms.items
  pub counted : n ≡ length verdict_of.non_terms.items
