pub mod Checks
pub mod VByte
pub mod Control
pub mod ItemChecks
pub mod Exact
pub mod ExactReading
pub mod ExactPrimitives
