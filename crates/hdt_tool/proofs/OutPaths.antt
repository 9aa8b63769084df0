-- Which commands have an output path.
use Rattle.std.proofs.Common.{◌≡◌, List, Option, None, Some, inl, inr, string_bytes}
use Rattle.std.specs.Prelude.{IsSomeAnd, MatchOption, option_map}
use Rattle.std.specs.declared.alloc.Global.{Global}
use Rattle.std.specs.declared.string.String.{String}
use Rattle.clap.specs.Words.{Row, Text}
use Rattle.hdt_tool.specs.declared.request.Action.{Action}
use Rattle.hdt_tool.specs.declared.request.Action.TheVariants.{Build, Rewrite}
use Rattle.hdt_tool.specs.declared.request.Request.{Request}
use Rattle.hdt_tool.specs.Outcomes.{HasOut, MakesFile, IsReadOnly}
use Rattle.hdt_tool.specs.CommandLine.{IsRequestOfCommand, IsBuildAction, IsQueryAction, IsRequestOf}
use Rattle.hdt_tool.specs.CommandLine.{IsOutputAction, ParsesToRequest}

reads : (name : Text) (rows : List Row) (action : Action) → IsQueryAction name rows action → IsReadOnly action
reads name rows (Build options) h = h
reads name rows (Rewrite b) h = h
reads name rows action h = tt

makes : (name : Text) (rows : List Row) (action : Action) → IsOutputAction name rows action → MakesFile action
makes name rows (Build options) h = absurd h
makes name rows (Rewrite b) h = tt
makes name rows action h = h

builds : (rows : List Row) (action : Action) → IsBuildAction rows action → MakesFile action
builds rows (Build options) h = tt
builds rows (Rewrite b) h = absurd h
builds rows action h = h

without : (A B : Type 0) (out : Option (String Global)) → option_map string_bytes out ≡ None → A
    → MatchOption out A (λ path. B)
without A B None e h = h
without A B (Some path) e h = absurd cc

with : (A B : Type 0) (P : String Global → Type 0) (out : Option (String Global)) → IsSomeAnd out P → B
    → MatchOption out A (λ path. B)
with A B P None some h = absurd some
with A B P (Some path) some h = h

asked : (name : Text) (rows : List Row) (request : Request) → IsRequestOf name rows request → HasOut request
asked name rows request (inl h) = without _ _ request.out h.out (reads name rows request.action h.action)
asked name rows request (inr (inl h)) = with _ _ _ request.out h.out (makes name rows request.action h.action)
asked name rows request (inr (inr h)) = with _ _ _ request.out h.out (builds rows request.action h.action)

entered : (command : Option (Text × List Row)) (request : Request) → IsRequestOfCommand command request → HasOut request
entered None request h = absurd h
entered (Some command) request h = asked command.0 command.1 request h.0

-- A request of a command line has an output path exactly if its command writes a file.
pub wanted_out : (words : List Text) (request : Request) → ParsesToRequest words request → HasOut request
wanted_out words request w = entered _ request w.wanted.asked
