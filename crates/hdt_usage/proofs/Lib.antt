mod Shown
pub mod Simple
