pub mod Passing
pub mod Types
pub mod Spaces
