pub mod Ends
pub mod Moves
pub mod Resumed
pub mod TypesLaws
