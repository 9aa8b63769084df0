-- The error for a document without triples.
use Rattle.std.proofs.Common.{◌≡◌, ℕ, ◌<◌, ◌≤◌, List, [], length, map, Option, Some, ◌⊎◌, inl, inr, refl, ap, ◌∙◌}
use Rattle.std.proofs.Common.{⊎_elim, arith}
use Rattle.hdt_terms.specs.declared.fault.TermFault.{TermFault}
use Rattle.hdt_terms.specs.declared.triple.Triple.{Triple}
use Rattle.hdt_terms.specs.LineParsing.{LineParseFails}
use Rattle.hdt_terms.specs.Lines.{Line, Document}
use Rattle.hdt_build.specs.declared.fault.BuildFault.{BuildFault}
use Rattle.hdt_build.specs.declared.fault.BuildFault.TheVariants as faults
use Rattle.hdt_build.specs.declared.options.Options.{Options}
use Rattle.hdt_build.specs.declared.options.Report.{Report}
use Rattle.hdt_build.specs.Built.{Builds}
use Rattle.hdt_build.specs.Reading.{most, term_strings, IsBuildFaultOf, ReadFailed}
use Rattle.hdt_build.proofs.OneDocument.{one_document, no_fault}

-- nothing is built from it
pub none_built : (one : (text : List ℕ) (x y : Option Triple) → Line text x → Line text y
    → x ≡ y) (options : Options) (bytes made : List ℕ) (report : Report) → Builds options (Some bytes) made report
    → Document bytes [] → ⊥
none_built one options bytes made report h none =
    let same : h.read.triples ≡ [] = one_document one bytes h.read.triples [] h.read.document.0 none in
    let some : 0 < length h.graph = h.built.file.some in
    omega (arith, some, ap length (h.read.strings ∙ ap (λ (ts : List Triple). map term_strings ts) same))

-- the error is this one, or that the reader failed, or out of memory
pub no_other_fault : (apart : (text : List ℕ) (x : Option Triple) (fault : TermFault) → Line text x
    → LineParseFails text fault → ⊥) (bytes : List ℕ) (after : Option (List ℕ)) (e : BuildFault)
    → IsBuildFaultOf (Some bytes) after e → Document bytes [] → length bytes ≤ most
    → (e ≡ faults.NoTriples) ⊎ ((e ≡ faults.OutOfMemory) ⊎ ReadFailed e)
no_other_fault apart bytes after (faults.Line fault) h none short =
    inr (inr (⊎_elim (λ read. read) (λ memory. absurd (h.1 memory))
    (no_fault apart bytes [] fault most after none short h.0)))
no_other_fault apart bytes after faults.NoTriples h none short = inl refl
no_other_fault apart bytes after faults.BadOptions h none short = absurd h
no_other_fault apart bytes after faults.OutOfMemory h none short = inr (inl refl)
no_other_fault apart bytes after (faults.Write n) h none short = absurd h
