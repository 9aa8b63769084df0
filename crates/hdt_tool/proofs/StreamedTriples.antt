-- The triples with given strings, written in pieces.
use Rattle.std.proofs.Common.{◌≡◌, ◌⊎◌, ◌∙◌, ◌++◌, ◌∷◌, [], ℕ, List, Option, None, Some, ap, inl, inr, length, refl}
use Rattle.std.proofs.Common.{subst, sym, take, arith}
use Rattle.std.proofs.lemmas.List.{take_all}
use Rattle.std.specs.Fmt.{decimal}
use Rattle.hdt_triples.specs.Patterns.{matches}
use Rattle.hdt_triples.specs.declared.pattern.Pattern.{Pattern}
use Rattle.std.specs.Io.KnownBytes.{Appends}
use Rattle.hdt_triples.specs.TripleSequences.{Triple}
use Rattle.hdt_file.specs.File.{GraphParts}
use Rattle.hdt_file.specs.TextStreaming.{CutsText, CutsWritable, StopsAt, WritesWritable}
use Rattle.hdt_file.specs.TextWriting.{ReportsFirstNonTerm, WritesText, limited, matches_if_given}
use Rattle.hdt_file.specs.declared.fault.DumpFault.{DumpFault}
use Rattle.hdt_file.specs.declared.fault.DumpFault.TheVariants as dumping
use Rattle.hdt_tool.specs.Faults.{dump_fault_of}
use Rattle.hdt_tool.specs.Changes.{Change, FailsAfter}
use Rattle.hdt_tool.specs.Outcomes.{IsCutShort}
use Rattle.hdt_tool.proofs.Pieces.{step}
use Rattle.hdt_tool.specs.NonTermText.{PrintsKept}
use Rattle.hdt_tool.specs.TriplesText.{Finds, GivenStrings, IsFindFault, PrintsFound, numbers_lines, query}
use Rattle.hdt_tool.specs.declared.fault.ToolFault.{ToolFault}
use Rattle.hdt_tool.specs.declared.fault.ToolFault.TheVariants.{OutOfMemory}
use Rattle.hdt_tool.specs.declared.fault.ToolFault.TheVariants as tool
use Rattle.hdt_tool.specs.declared.request.OutputFormat.TheVariants.{Count, NTriples, Numbers}

pub found_printed : (g : GraphParts) (given : GivenStrings) (most : Option ℕ) (found : List Triple)
    (before after : Option (List ℕ)) (n : ℕ) → Finds g given found
    → WritesText g (limited most found) before after n
    → (text : List ℕ) × PrintsFound g (query given NTriples most) text × Appends before after text
found_printed g given most found before after n finds h =
    (h.text, record { found = found; finds = finds; holds = h.is }, h.written)

cut : (e : DumpFault) (text : List ℕ) (before after : Option (List ℕ)) (failed fails : ℕ)
    → StopsAt e 0 text before after failed fails → IsCutShort (dump_fault_of e) text (step before after failed fails)
cut (dumping.NotATerm role n) text before after failed fails h = absurd h
cut (dumping.Write m) text before after failed fails h =
    let same : h.count ≡ m = omega (arith, h.is) in
    record {
      failed = h.once;
      within = omega (arith, h.within, same);
      written = subst (λ (n : ℕ). Appends before after (take n text)) same h.written;
    }
cut dumping.OutOfMemory text before after failed fails h = (h.well, (h.count, h.written))

faulty : (g : GraphParts) (given : GivenStrings) (most : Option ℕ) (found : List Triple) (e : DumpFault)
    → Finds g given found → ReportsFirstNonTerm g (limited most found) e
    → IsFindFault g (query given NTriples most) (dump_fault_of e)
faulty g given most found (dumping.NotATerm role n) finds h =
    (refl, record { found = found; finds = finds; holds = h })
faulty g given most found (dumping.Write m) finds h = absurd h
faulty g given most found dumping.OutOfMemory finds h = tt

pub found_cut : (g : GraphParts) (given : GivenStrings) (most : Option ℕ) (found : List Triple) (e : DumpFault)
    (Same : Type 0) (before after : Option (List ℕ)) (failed fails : ℕ) → Finds g given found
    → (ReportsFirstNonTerm g (limited most found) e × Same)
    ⊎ CutsText g (limited most found) e before after failed fails
    → (IsFindFault g (query given NTriples most) (dump_fault_of e) × Same)
    ⊎ ((text : List ℕ) × PrintsFound g (query given NTriples most) text
    × IsCutShort (dump_fault_of e) text (step before after failed fails))
found_cut g given most found e Same before after failed fails finds (inl h) =
    inl (faulty g given most found e finds h.0, h.1)
found_cut g given most found e Same before after failed fails finds (inr h) =
    inr (
      h.text,
      record { found = found; finds = finds; holds = h.is },
      cut e h.text before after failed fails h.stops,
    )

-- ---- the other formats

same_lines : (g : GraphParts) (most : Option ℕ) (pattern : Option Pattern) (p : Pattern) (ts : List Triple)
    → pattern ≡ Some p → ts ≡ matches p g.triples
    → numbers_lines (limited most ts) ≡ numbers_lines (limited most (matches_if_given g pattern))
same_lines g most pattern p ts given are =
    ap (λ (l : List Triple). numbers_lines (limited most l)) are
    ∙ ap (λ (q : Option Pattern). numbers_lines (limited most (matches_if_given g q))) (sym given)

pub numbers_printed : (g : GraphParts) (given : GivenStrings) (most : Option ℕ) (pattern : Option Pattern)
    (p : Pattern) (ts : List Triple) → Finds g given (matches_if_given g pattern) → pattern ≡ Some p
    → ts ≡ matches p g.triples → PrintsFound g (query given Numbers most) (numbers_lines (limited most ts))
numbers_printed g given most pattern p ts finds is are = record {
  found = matches_if_given g pattern;
  finds = finds;
  holds = same_lines g most pattern p ts is are;
}

none_limited : (most : Option ℕ) → [] ≡ numbers_lines (limited most [])
none_limited None = refl
none_limited (Some n) = ap numbers_lines (sym (take_all n [] (omega arith)))

pub no_numbers : (g : GraphParts) (given : GivenStrings) (most : Option ℕ) (pattern : Option Pattern)
    → Finds g given (matches_if_given g pattern) → pattern ≡ None → PrintsFound g (query given Numbers most) []
no_numbers g given most pattern finds is = record {
  found = [];
  finds = subst (λ (q : Option Pattern). Finds g given (matches_if_given g q)) is finds;
  holds = none_limited most;
}

pub count_printed : (g : GraphParts) (given : GivenStrings) (most : Option ℕ) (found : List Triple) (n : ℕ)
    (text : List ℕ) → Finds g given found → n ≡ length (limited most found) → text ≡ decimal n ++ 10 ∷ []
    → PrintsFound g (query given Count most) text
count_printed g given most found n text finds same is = record {
  found = found;
  finds = finds;
  holds = is ∙ ap (λ (m : ℕ). decimal m ++ 10 ∷ []) same;
}

pub line_cut : (e : ToolFault) (text bytes : List ℕ) (out : Change) → bytes ≡ text
    → (n : ℕ) × (e ≡ tool.Write n) × FailsAfter n bytes out → IsCutShort e text out
line_cut e text bytes out same h =
    subst (λ (t : ToolFault). IsCutShort t text out) (sym h.1)
    (subst (λ (x : List ℕ). FailsAfter h.0 x out) same h.2)

-- ---- triples that have a line

pub kept_written : (g : GraphParts) (given : GivenStrings) (most : Option ℕ) (found : List Triple)
    (before after : Option (List ℕ)) (n : ℕ) → Finds g given found → WritesWritable g most found before after n
    → (text : List ℕ) × PrintsKept g (query given NTriples most) text n × Appends before after text
kept_written g given most found before after n finds h = (
  h.written.text,
  record { found = found; finds = finds; holds = (h.kept, h.skips, h.written.is) },
  h.written.written,
)

pub kept_cut : (g : GraphParts) (given : GivenStrings) (most : Option ℕ) (found : List Triple) (e : DumpFault)
    (Same : Type 0) (before after : Option (List ℕ)) (failed fails : ℕ) → Finds g given found
    → ((e ≡ dumping.OutOfMemory) × Same) ⊎ CutsWritable g most found e before after failed fails
    → ((dump_fault_of e ≡ OutOfMemory) × Same)
    ⊎ ((text : List ℕ) × (n : ℕ) × PrintsKept g (query given NTriples most) text n
    × IsCutShort (dump_fault_of e) text (step before after failed fails))
kept_cut g given most found e Same before after failed fails finds (inl h) = inl (ap dump_fault_of h.0, h.1)
kept_cut g given most found e Same before after failed fails finds (inr h) = inr (
  h.cut.text,
  h.skipped,
  record { found = found; finds = finds; holds = (h.kept, h.skips, h.cut.is) },
  cut e h.cut.text before after failed fails h.cut.stops,
)
