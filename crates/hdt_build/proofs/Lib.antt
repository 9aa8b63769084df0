pub mod BuiltForm
pub mod Counts
pub mod Denoting
pub mod Distinct
pub mod Equal
pub mod Heads
pub mod LabelPrefixes
pub mod Layouts
pub mod NoTriples
pub mod OneDocument
pub mod Order
pub mod GraphIndices
pub mod IndexTriples
pub mod PackedTriples
pub mod PackedNumbers
pub mod PackedStrings
pub mod MergedTriples
pub mod MergedSequences
pub mod TripleRuns
pub mod StringsOfIds
pub mod CommonPrefixes
pub mod RankedFlags
pub mod EncodedRuns
pub mod RankedRuns
pub mod StringCursors
mod SectionFilling
mod FilteredSections
pub mod EntrySorting
pub mod Deduplication
pub mod PrefixedLabels
pub mod Relabelled
pub mod RelabelledOrder
pub mod RelabelledTerms
pub mod DocumentReading
pub mod Unions
pub mod Unique
mod PrefixOrder
mod CursorSteps
mod RunMerging
mod SectionOfRuns
mod RewrittenSections
mod RunOrder
mod DenotedStrings
mod RewrittenFiles
pub mod MergedFiles
mod MovedParts
mod HeaderProperties
pub mod ReplacedHeaders
mod DistinctMembers
mod SequencePushes
mod RestOfBytes
pub mod CanonicalForm
pub mod CountedChunks
pub mod Events
pub mod RecordMerging
pub mod Groups
pub mod SectionBuilders
pub mod TripleTapes
pub mod RecordIds
pub mod BatchEncoding
pub mod Grouping
pub mod FileBatches
pub mod RecordBatches
pub mod Outputs
pub mod EntryWriting
pub mod ByteTapes
pub mod SectionPieces
pub mod SectionTapes
pub mod AscendingTriples
pub mod TripleEntries
pub mod ScratchSequences
pub mod WindowLaws
