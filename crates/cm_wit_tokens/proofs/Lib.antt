mod RunLaws
mod CommentLaws
mod DigitLaws
mod FrontLaws
mod BoundaryLaws
mod LexedLaws
pub mod Tools
pub mod Laws
pub mod StepLaws
pub mod ListLaws
pub mod LoopLaws
pub mod MostLaws
pub mod WholeLaws
pub mod TextLaws
mod KeywordLaws
pub mod SpellingLaws
pub mod FaultsLaws
pub mod ReadLaws
