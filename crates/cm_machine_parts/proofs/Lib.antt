mod LendLists
mod TopCalls
mod Mapping
mod Closing
pub mod Standing
mod Ending
pub mod Tables
pub mod RowsLaws
