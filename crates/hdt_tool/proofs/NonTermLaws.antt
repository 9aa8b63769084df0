-- The output of commands that count what has no form in N-Triples.
use Rattle.std.proofs.Common.{◌≡◌, ℕ, Bool, true, List, Option, subst, sym}
use Rattle.std.specs.Prelude.{IfSome}
use Rattle.hdt_triples.specs.TripleSequences.{Triple}
use Rattle.hdt_file.specs.File.{GraphParts}
use Rattle.hdt_file.specs.Writable.{SkipsNonTerms}
use Rattle.hdt_tool.specs.Outcomes.{HasFault, IsFaultOfBytes}
use Rattle.hdt_tool.specs.NonTermText.{PrintsKept, kept_format}
use Rattle.hdt_tool.specs.TriplesText.{Finds, GivenStrings, PrintsTriples, match_count_line, query}
use Rattle.hdt_file.specs.Faults.{open_fault_of}
use Rattle.hdt_file.specs.declared.fault.OpenFault.{OpenFault}
use Rattle.hdt_file.specs.declared.fault.OpenFault.TheVariants as opening
use Rattle.hdt_tool.specs.Faults.{tool_fault_of}
use Rattle.hdt_tool.specs.declared.request.Action.{Action}

-- ---- triples that have lines

pub kept_counted : (g : GraphParts) (given : GivenStrings) (count : Bool) (most : Option ℕ) (found kept : List Triple)
    (text : List ℕ) (n : ℕ) → Finds g given found → SkipsNonTerms g most found kept n
    → count ≡ true → text ≡ match_count_line kept → PrintsKept g (query given (kept_format count) most) text n
kept_counted g given count most found kept text n finds skips is printed = record {
  found = found;
  finds = finds;
  holds = (kept, skips, subst (λ (b : Bool). PrintsTriples (kept_format b) g kept text) (sym is) printed);
}

-- ---- strings that are not terms

-- The error of a file.
pub open_fault : (action : Action) (bytes : List ℕ) (e : OpenFault)
    → IfSome (open_fault_of e) (λ fault. HasFault action bytes fault) → IsFaultOfBytes action bytes (tool_fault_of e)
open_fault action bytes (opening.Fault fault) h = h
open_fault action bytes opening.OutOfMemory h = tt
