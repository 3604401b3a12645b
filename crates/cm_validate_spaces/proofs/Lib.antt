mod WalkLaws
pub mod TySets
pub mod SetLaws
mod ResultLaws
mod MadeLaws
mod EntryLaws
mod AnswerLaws
mod TypeLaws
mod CanonLaws
