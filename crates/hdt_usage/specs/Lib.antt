pub mod CommandTable
pub mod Explanations
pub mod Hints
pub mod ShownLine
