pub mod Lists
pub mod ShownTypes
pub mod Counted
pub mod Written
pub mod Shown
pub mod Faults
pub mod Pieces
pub mod Pages
