pub mod Texts
pub mod Naming
pub mod Cut
