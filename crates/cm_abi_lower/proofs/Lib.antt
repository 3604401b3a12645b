pub mod WalkLemmas
pub mod LeafLemmas
pub mod GivingSeenLayouts
pub mod GivingLemmas
