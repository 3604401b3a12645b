pub mod Faults
pub mod Grammar
pub mod Whole
pub mod Reading
pub mod Spelling
