pub mod Interfaces
pub mod InterfaceViews
pub mod Externs
pub mod Faults
pub mod Worlds
