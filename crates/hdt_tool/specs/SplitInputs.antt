-- Splitting several documents: what the writers of the parts have gained.
use Rattle.std.specs.Prelude.{◌≡◌, ◌+◌, ◌⊎◌, ℕ, Bool, true, false, List, [], ◌∷◌, Option, None, Some}
use Rattle.hdt_build.specs.Relabelling.{apart_prefix}
use Rattle.hdt_terms.specs.Split.{SplitsInput, SplitsUntilFault}
use Rattle.hdt_terms.specs.declared.split.SplitReport.{SplitReport}
use Rattle.hdt_tool.specs.Changes.{Update, update}
use Rattle.hdt_tool.specs.declared.request.BlankNodes.{BlankNodes}
use Rattle.hdt_tool.specs.declared.request.BlankNodes.TheVariants as blank
use Rattle.hdt_tool.specs.declared.splitting.SplitInputsFault.{SplitInputsFault}
use Rattle.hdt_tool.specs.declared.splitting.SplitInputsFault.TheVariants as stop

-- What goes before the labels of the input with this number, from 0.
abbrev pub input_prefix : Option BlankNodes → ℕ → List ℕ
input_prefix (Some blank.Apart) n = apart_prefix n
input_prefix (Some blank.One) n = []
input_prefix None n = []

-- The first input with blank nodes, after the input n.
abbrev pub first_with_blank_nodes : Option ℕ → ℕ → Bool → Option ℕ
first_with_blank_nodes (Some k) n has = Some k
first_with_blank_nodes None n true = Some n
first_with_blank_nodes None n false = None

-- An earlier input has blank nodes and so has this one, and whether a label is one node in both was not said.
abbrev pub MixesBlankNodes : Option BlankNodes → Option ℕ → Bool → Type 0
MixesBlankNodes None (Some k) true = Unit {0}
MixesBlankNodes mode first has = ⊥

-- The error names the first input with blank nodes and the input n.
abbrev pub IsBlankNodesFault : Option BlankNodes → Option ℕ → ℕ → SplitInputsFault → Type 0
IsBlankNodesFault mode first n (stop.BlankNodes k m) = (mode ≡ None) × (first ≡ Some k) × (m ≡ n)
IsBlankNodesFault mode first n other = ⊥

-- The turn of an input: what `--blank-nodes` says, the first input before it with blank nodes, and its number.
pub record Turn : Type 0 where
  pub mode : Option BlankNodes
  pub first : Option ℕ
  pub number : ℕ

abbrev pub first_turn : Option BlankNodes → Turn
first_turn mode = record { mode = mode; first = None; number = 0 }

-- The next turn, after an input with or without blank nodes.
abbrev pub next_turn : Turn → Bool → Turn
next_turn turn has =
    record turn { first = first_with_blank_nodes turn.first turn.number has; number = turn.number + 1 }

-- The bytes of each input or writer, if they are known.
abbrev pub Contents : Type 0
Contents = List (Option (List ℕ))

-- The input was split in its turn.
abbrev pub SplitsAt : Turn → Option (List ℕ) → Update Contents → SplitReport → Type 0
SplitsAt turn input outs report = SplitsInput (input_prefix turn.mode turn.number) input outs.before outs.after report

-- The inputs were split one after another; outs are the writers of the parts.
abbrev pub SplitsInTurn : Turn → Contents → Update Contents → Type 0
SplitsInTurn turn [] outs = outs.after ≡ outs.before
SplitsInTurn turn (input ∷ inputs) outs = (between : Contents) × (report : SplitReport)
    × SplitsAt turn input (update outs.before between) report
    × (MixesBlankNodes turn.mode turn.first report.has_blank_nodes → ⊥)
    × SplitsInTurn (next_turn turn report.has_blank_nodes) inputs (update between outs.after)

-- The error is that of the input: of a line, a read or a write; or it has blank nodes and so has an earlier one; or
-- memory ran out before it was read.
abbrev pub IsFaultOfInputAt : Turn → Option (List ℕ) → Update Contents → SplitInputsFault → Type 0
IsFaultOfInputAt turn input outs (stop.Input k fault) = (k ≡ turn.number) × ((left : Option (List ℕ))
    × SplitsUntilFault (input_prefix turn.mode turn.number) input left outs.before outs.after fault)
IsFaultOfInputAt turn input outs (stop.BlankNodes k m) =
    IsBlankNodesFault turn.mode turn.first turn.number (stop.BlankNodes k m)
    × ((report : SplitReport) × SplitsAt turn input outs report × (report.has_blank_nodes ≡ true))
IsFaultOfInputAt turn input outs stop.OutOfMemory = outs.after ≡ outs.before

-- The error is that of one of the inputs, and those before it were split.
abbrev pub StopsInTurn : Turn → Contents → Update Contents → SplitInputsFault → Type 0
StopsInTurn turn [] outs fault = ⊥
StopsInTurn turn (input ∷ inputs) outs fault = IsFaultOfInputAt turn input outs fault
    ⊎ ((between : Contents) × (report : SplitReport) × SplitsAt turn input (update outs.before between) report
    × (MixesBlankNodes turn.mode turn.first report.has_blank_nodes → ⊥)
    × StopsInTurn (next_turn turn report.has_blank_nodes) inputs (update between outs.after) fault)
