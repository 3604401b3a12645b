pub mod Trees
pub mod Spelling
pub mod Limits
pub mod Parts
pub mod Measures
