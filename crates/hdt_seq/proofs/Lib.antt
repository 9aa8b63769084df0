mod Reading
pub mod SequenceWriting
mod BitReading
mod LoadedBits
mod OnesOfWords
mod GroupCounts
