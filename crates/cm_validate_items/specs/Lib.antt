pub mod Items
pub mod InstanceTypes
pub mod Ranges
pub mod Resources
pub mod Numbers
pub mod Shared
