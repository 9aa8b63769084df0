-- The text of pages of matches.
use Rattle.std.specs.Prelude.{◌≡◌, ◌⊎◌, ℕ, List, [], take, drop, Option, Some, None}
use Rattle.hdt_triples.specs.TripleSequences.{Triple}
use Rattle.hdt_triples.specs.Patterns.{matches}
use Rattle.hdt_triples.specs.declared.pattern.Pattern.{Pattern}
use Rattle.hdt_file.specs.File.{GraphParts}
use Rattle.hdt_file.specs.Paging.{IsNextMatch}
use Rattle.hdt_c.specs.LookUps.{absent}
use Rattle.hdt_c.specs.Texts.{HoldsText, HoldsNoText}
use Rattle.hdt_c.specs.declared.bytes.HdtBytes.{HdtBytes}
use Rattle.hdt_c.specs.declared.report.HdtTextResult.{HdtTextResult}

-- the first `most` matches from triple `from` on; without a pattern there is none
abbrev pub page_triples : GraphParts → Option Pattern → ℕ → ℕ → List Triple
page_triples g None from most = []
page_triples g (Some p) from most = take most (matches p (drop from g.triples))

-- `next` is the index of the match after the page, or `absent` if there is none
abbrev pub IsAfterPage : GraphParts → Option Pattern → ℕ → ℕ → ℕ → Type 0
IsAfterPage g None from most next = next ≡ absent
IsAfterPage g (Some p) from most next = IsNextMatch g.triples p from most next
    ⊎ ((next ≡ absent) × (drop most (matches p (drop from g.triples)) ≡ []))

-- the bytes are the text of the page, and `next` is the index of the match after it; or there are no bytes and no
-- index, and the result is the error
abbrev pub ReportsPageText : GraphParts → ℕ → ℕ → ℕ → HdtBytes → HdtTextResult → Option Pattern → Type 0
ReportsPageText g from most next out outcome pattern =
    (HoldsText g (page_triples g pattern from most) out outcome × IsAfterPage g pattern from most next)
    ⊎ (HoldsNoText g (page_triples g pattern from most) out outcome × (next ≡ absent))
