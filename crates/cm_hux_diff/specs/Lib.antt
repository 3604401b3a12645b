pub mod Facing
pub mod Held
pub mod Breaking
pub mod Views
