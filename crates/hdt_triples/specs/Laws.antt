pub mod TripleSequences
pub mod Group
pub mod Order
pub mod Triples
pub mod Uses
pub mod Writing
