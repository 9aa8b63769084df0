mod Sizes
mod Refusals
mod OutPaths
mod SplitRuns
mod DocumentRuns
mod ScratchRuns
mod MergeRuns
mod ParsedArguments
mod StringLines
mod CountLines
mod ListedLines
mod Pieces
mod InputFaults
mod LintFaults
mod Outputs
mod Rewriting
mod InfoLaws
mod Triples
pub mod Statuses
pub mod Dialogues
mod NonTermLaws
mod FindActions
mod Escaping
mod StreamedTriples
