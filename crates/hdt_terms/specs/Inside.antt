pub mod ByteRuns
pub mod LineBuffer
