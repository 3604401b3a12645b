pub mod Drives
pub mod Forgets
pub mod Seats
pub mod Watched
