pub mod LeastLaws
pub mod ValidLaws
pub mod TypeLaws
pub mod ScopeLaws
pub mod SpaceLaws
pub mod ListLemmas
mod ItemLaws
mod ImportedLaws
mod Stepping
mod BorrowLaws
pub mod NamedLaws
pub mod FaultLaws
pub mod ReasonsLaws
pub mod RulesLaws
pub mod SharedLaws
