pub mod Overlap
pub mod Merging
pub mod Seeking
