-- Definitions that only this crate uses.
pub mod ReadViews
pub mod LoadRuns
pub mod AsciiEntries
pub mod PartialStrings
pub mod Searching
pub mod WriterFields
