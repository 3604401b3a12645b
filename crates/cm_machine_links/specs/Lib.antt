pub mod Planning
pub mod Planned
pub mod Standing
pub mod Written
