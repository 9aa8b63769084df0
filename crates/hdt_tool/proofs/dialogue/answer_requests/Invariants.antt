use Rattle.std.proofs.Common.{◌≡◌, ◌⊎◌, ◌+◌, ◌^◌, ◌<◌, ℕ, List, [], None, length}
use Rattle.hdt_wire.specs.Counted.{inner, failures}
use Rattle.hdt_terms.specs.LinesReader.{HasBufferedLine, unread_input}
use Rattle.hdt_file.specs.CachedTerms.{CachesTerms}
use Rattle.hdt_file.specs.Graph.{graph_view}
use Rattle.hdt_tool.specs.Dialogue.{AnswersLines, AreFlagsIfSkipping, skips}
use Rattle.hdt_tool.specs.Inside.AnswerLoop.{HasTakenLines, lines_left}
use Rattle.hdt_tool.proofs.Dialogues.{GainedButFor}
use Rattle.hdt_tool.proofs.dialogue.answer_requests.Given as goal

-- The lines that have been read, and the text of their answers.
abbrev pub invariant-lines : goal.invariant-lines
invariant-lines g l = (lines : List (ℕ × List ℕ)) × (text : List ℕ)
    × HasTakenLines l.lines (g.R.Read.remaining (inner l.fn.input))
    (unread_input l.lines (g.R.Read.remaining (inner l.input))) lines
    × AnswersLines (graph_view l.fn.graph) l.options lines l.report text
    × GainedButFor (g.W.Write.contents (inner l.fn.out))
    (g.W.Write.contents (inner l.out)) text l.pending.bytes.items l.pending.written
    × (l.pending.written + length l.pending.bytes.items < 2 ^ 64) × (failures l.out ≡ failures l.fn.out)
    × (failures l.input ≡ failures l.fn.input) × (l.lines.failed ≡ None)
    × CachesTerms (graph_view l.answerer.graph.now) l.buffers.term_writer
    × ((l.pending.bytes.items ≡ []) ⊎ HasBufferedLine l.lines)
    × (l.answerer.graph.now ≡ l.fn.graph) × (l.answerer.options ≡ l.options)
    × AreFlagsIfSkipping (skips l.answerer.options)
    (graph_view l.answerer.graph.now) l.answerer.flags

abbrev pub decreases-lines : goal.decreases-lines
decreases-lines g l = lines_left l.lines
