pub mod LookedLemmas
mod CheckLemmas
mod CheckLaws
pub mod FlatCheckLaws
pub mod PutLemmas
mod PutLaws
pub mod SlotPutLaws
mod LookingLemmas
mod RoomLemmas
mod LookLemmas
mod TextRowLemmas
mod AsciiLemmas
mod WithinLemmas
mod FlatLookingLemmas
mod PassedLemmas
pub mod LeafLemmas
pub mod PuttingLemmas
pub mod PuttingFlatLemmas
