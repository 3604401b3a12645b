pub mod LoadLemmas
pub mod HandleLemmas
pub mod MakingLemmas
pub mod CaseLemmas
pub mod TreeLemmas
pub mod SizedLaws
pub mod MeetLaws
pub mod ShownLaws
pub mod ReadLaws
pub mod FoundLaws
pub mod PartLemmas
mod LeafLemmas
mod NumberLemmas
mod LeafReadingSeen
mod SlotLemmas
pub mod TextLemmas
mod MeasureLemmas
