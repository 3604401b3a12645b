pub mod Placed
pub mod Kinds
