-- The ends of a split of several documents.
use Rattle.std.proofs.Common.{◌≡◌, ◌∷◌, ℕ, List, [], Option, None, Some, length, refl, rules, subst, true}
use Rattle.hdt_terms.specs.Split.{SplitsUntilFault}
use Rattle.hdt_terms.specs.declared.split.SplitFault.{SplitFault}
use Rattle.hdt_terms.specs.declared.split.SplitReport.{SplitReport}
use Rattle.hdt_tool.specs.Changes.{Update}
use Rattle.hdt_tool.specs.declared.splitting.SplitInputsFault.{SplitInputsFault}
use Rattle.hdt_tool.specs.declared.splitting.SplitInputsFault.TheVariants as stop
use Rattle.hdt_tool.specs.Paths.{printed_part}
use Rattle.hdt_tool.specs.SplitInputs.{Contents, IsBlankNodesFault, IsFaultOfInputAt, SplitsAt, Turn, input_prefix}

-- A second input with blank nodes.
pub mixed : (turn : Turn) (input : Option (List ℕ)) (outs : Update Contents) (report : SplitReport)
    (fault : SplitInputsFault) → SplitsAt turn input outs report
    → IsBlankNodesFault turn.mode turn.first turn.number fault → report.has_blank_nodes ≡ true
    → IsFaultOfInputAt turn input outs fault
mixed turn input outs report (stop.Input k fault) split scope has = absurd scope
mixed turn input outs report (stop.BlankNodes k m) split scope has = (scope, (report, split, has))
mixed turn input outs report stop.OutOfMemory split scope has = absurd scope

pub none_left : {A : Type 0} (xs : List A) → length xs ≡ 0 → xs ≡ []
none_left [] e = refl
none_left (x ∷ xs) e = absurd cc

-- An error of the input, after the lines before it.
pub stops_at_fault : (turn : Turn) (prefix : List ℕ) (input left : Option (List ℕ)) (outs : Update Contents)
    (fault : SplitFault) → prefix ≡ input_prefix turn.mode turn.number
    → SplitsUntilFault prefix input left outs.before outs.after fault
    → IsFaultOfInputAt turn input outs (stop.Input turn.number fault)
stops_at_fault turn prefix input left outs fault e h =
    (refl, (left, subst (λ p. SplitsUntilFault p input left outs.before outs.after fault) e h))

pub fault_of_input : (n k : ℕ) (one other : SplitFault) → stop.Input n one ≡ stop.Input k other → one ≡ other
fault_of_input n k one other same = cc

-- A part is printed if it has the wanted number.
pub is_printed : {W : Type 0} (part n : ℕ) (out : W) → n ≡ part → Some out ≡ printed_part part out n
is_printed {W} part n out same = search rules

pub not_printed : {W : Type 0} (part n : ℕ) (out : W) → (n ≡ part → ⊥) → None ≡ printed_part part out n
not_printed {W} part n out other = search rules
