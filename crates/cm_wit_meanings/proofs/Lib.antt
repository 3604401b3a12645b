pub mod ScopeLaws
pub mod GrowthLaws
mod FaultLaws
mod AddedLaws
mod EachLaws
mod PushLaws
mod TypeLaws
mod PartsGrowthLaws
mod PartsFaultLaws
mod PartsEachLaws
mod PartsPushLaws
mod PartsAddedLaws
pub mod MemberLaws
mod DefinitionLaws
mod FuncLaws
pub mod PlacesLaws
