pub mod Steps
pub mod Passing
