pub mod Scopes
pub mod Meanings
pub mod Faults
pub mod Places
pub mod Added
pub mod PartsAdded
