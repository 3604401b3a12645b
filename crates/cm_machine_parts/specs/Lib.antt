pub mod Checks
pub mod Closing
pub mod Kept
pub mod Lends
pub mod Links
pub mod Rows
pub mod Stacks
pub mod States
pub use Rattle.cm_machine_model.specs as cm_machine_model
