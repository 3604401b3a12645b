pub mod Faults
pub mod Used
pub mod Stubs
pub mod Sets
