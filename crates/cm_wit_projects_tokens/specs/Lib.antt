pub mod Views
pub mod Gates
pub mod Tokens
