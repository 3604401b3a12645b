pub mod Borrows
pub mod Changes
pub mod Faults
pub mod Handles
pub mod Slots
