pub mod Asking
pub mod Sizes
pub mod Stages
