pub mod Writable
pub mod CountingSort
pub mod Runs
pub mod SequencesView
pub mod PredicateCursors
