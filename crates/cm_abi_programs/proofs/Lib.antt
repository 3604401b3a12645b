pub mod CheckForms
pub mod PutForms
pub mod SlotForms
mod FormLemmas
mod ShapeLemmas
mod MakingLemmas
mod HoldingLemmas
mod PutMakingLemmas
mod SlotMakingLemmas
mod HeldLaws
