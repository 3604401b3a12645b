pub mod HistoryLaws
pub mod MemoriesLaws
pub mod PassagesLaws
pub mod RunLaws
pub mod StackLaws
pub mod StateLaws
pub mod ValidLaws
mod CellsMemory
mod Refilled
