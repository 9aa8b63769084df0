mod AsBox
mod GraphPrefixes
mod JoinLaws
mod MergeLaws
mod OptionLaws
pub mod Counting
pub mod HandleLaws
pub mod MatchLaws
pub mod PageLaws
pub mod TermLaws
