pub mod Answers
pub mod Progress
pub mod Views
pub mod After
pub mod Pieces
pub mod Streams
