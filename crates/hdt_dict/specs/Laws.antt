pub mod Dictionary
pub mod Strings
pub mod Members
pub mod Merge
pub mod Split
pub mod Writing
pub mod Arena
