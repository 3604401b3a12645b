mod ExternLaws
mod OneLaws
mod LoopLaws
mod MadeLaws
mod SignLaws
mod OrderLaws
mod FoundLaws
pub mod MeaningLaws
mod ReadLaws
mod TypeTexts
pub mod FileTexts
mod RestLaws
mod LedLaws
mod ListLaws
mod MarkLaws
mod TypedLaws
mod ReachLaws
mod PackageLaws
mod ThereLaws
mod OwnLaws
mod WorldLaws
mod ItemListLaws
mod EachLaws
mod PushLaws
pub mod ItemLaws
mod FrontLaws
