pub mod TextSizes
pub mod AskingLemmas
pub mod SeenLayouts
pub mod AnswerLaws
pub mod ContentLaws
pub mod AlignedRequests
pub mod RegionLaws
pub mod RegionWalk
pub mod PassedContent
pub mod PassedTypes
mod CountedParts
pub mod TextUnits
pub mod AskLaws
pub mod StageLaws
pub mod StageSeen
mod PlaceLaws
mod FineLaws
mod FewLaws
