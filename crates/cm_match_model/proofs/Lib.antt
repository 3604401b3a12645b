pub mod OriginLaws
mod ListLemmas
mod LinkLaws
mod AnswerLaws
mod TargetLaws
mod ServedLaws
mod ReachLaws
mod AlikeLists
mod OrderLaws
mod BroughtLaws
mod ServingLaws
mod SameLaws
mod AlikeLaws
mod SetLaws
mod Requirements
pub mod Carets
pub mod Compatible
mod RangeLaws
pub mod SightLaws
