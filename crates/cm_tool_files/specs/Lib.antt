pub mod Conforming
pub mod Numbers
pub mod Refusals
