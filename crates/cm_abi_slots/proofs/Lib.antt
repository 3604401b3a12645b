mod NumberLemmas
mod StepLemmas
mod LeafLaws
mod SlotLaws
mod CallLaws
