pub mod Reasons
pub mod Fitting
pub mod Judging
pub mod Meanings
pub mod Files
