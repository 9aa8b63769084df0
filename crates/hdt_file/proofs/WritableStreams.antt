-- The text of matches that have a line, written in pieces.
use Rattle.std.proofs.Common.{◌≡◌, ℕ, List, Option, sym, ap, subst, ◌∙◌}
use Rattle.std.specs.List.{filter}
use Rattle.hdt_triples.specs.TripleSequences.{Triple}
use Rattle.hdt_triples.specs.declared.pattern.Pattern.{Pattern}
use Rattle.hdt_file.specs.File.{GraphParts}
use Rattle.hdt_file.specs.TermFlags.{AreTermFlags, is_writable}
use Rattle.hdt_file.specs.TextStreaming.{CutsText, CutsWritable, WritesWritable}
use Rattle.hdt_file.specs.TextWriting.{WritesText, limited, matches_if_given}
use Rattle.hdt_file.specs.Writable.{AreWritableTriples, SkipsNonTerms, skipped_among}
use Rattle.hdt_file.specs.declared.fault.DumpFault.{DumpFault}
use Rattle.hdt_file.specs.declared.term_flags.TermFlags.{TermFlags}
use Rattle.hdt_file.proofs.TermFlagLaws.{tells}
use Rattle.hdt_file.proofs.WritableLaws.{all_kept}

-- if all terms were checked, no match is skipped
pub checked_kept : (g : GraphParts) (flags : TermFlags) (most : Option ℕ) (checked streamed found : List Triple)
    → AreTermFlags g flags → checked ≡ found → streamed ≡ found → AreWritableTriples g (limited most checked)
    → limited most (filter (is_writable flags) streamed) ≡ limited most found
checked_kept g flags most checked streamed found are one other lines =
    ap (λ (ts : List Triple). limited most (filter (is_writable flags) ts)) other
    ∙ all_kept g (is_writable flags) most found (tells g flags are)
    (subst (λ (ts : List Triple). AreWritableTriples g (limited most ts)) one lines)

skips_found : (g : GraphParts) (flags : TermFlags) (most : Option ℕ) (pattern : Option Pattern) (found : List Triple)
    → found ≡ matches_if_given g pattern → AreTermFlags g flags
    → SkipsNonTerms g most (matches_if_given g pattern) (limited most (filter (is_writable flags) found))
    (skipped_among (is_writable flags) most found)
skips_found g flags most pattern found same are = record {
  is_writable = is_writable flags;
  tells = tells g flags are;
  kept_are = ap (λ (ts : List Triple). limited most (filter (is_writable flags) ts)) same;
  skipped_is = ap (λ (ts : List Triple). skipped_among (is_writable flags) most ts) same;
}

pub writable_cut : (g : GraphParts) (flags : TermFlags) (most : Option ℕ) (pattern : Option Pattern)
    (found : List Triple) (e : DumpFault) (s t : Option (List ℕ)) (i j : ℕ) → found ≡ matches_if_given g pattern
    → AreTermFlags g flags → CutsText g (limited most (filter (is_writable flags) found)) e s t i j
    → CutsWritable g most (matches_if_given g pattern) e s t i j
writable_cut g flags most pattern found e s t i j same are h = record {
  kept = limited most (filter (is_writable flags) found);
  skipped = skipped_among (is_writable flags) most found;
  skips = skips_found g flags most pattern found same are;
  cut = h;
}

pub writable_written : (g : GraphParts) (flags : TermFlags) (most : Option ℕ) (pattern : Option Pattern)
    (found : List Triple) (s t : Option (List ℕ)) (n size : ℕ) → found ≡ matches_if_given g pattern
    → AreTermFlags g flags → n ≡ skipped_among (is_writable flags) most found
    → WritesText g (limited most (filter (is_writable flags) found)) s t size
    → WritesWritable g most (matches_if_given g pattern) s t n
writable_written g flags most pattern found s t n size same are skipped h = record {
  kept = limited most (filter (is_writable flags) found);
  skips = subst (λ (m : ℕ). SkipsNonTerms g most (matches_if_given g pattern)
      (limited most (filter (is_writable flags) found)) m) (sym skipped)
      (skips_found g flags most pattern found same are);
  size = size;
  written = h;
}
