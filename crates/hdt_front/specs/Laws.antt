-- Laws, which other crates may use.
pub mod CheckedEntries
pub mod StringSteps
pub mod ChecksSound
pub mod ChecksComplete
pub mod FrontCodingSteps
pub mod FrontCoding
pub mod Section
pub mod StringOffset
pub mod Canonical
pub mod Strings
pub mod CommonPrefix
pub mod Iteration
pub mod IterationSteps
pub mod SectionWriting
