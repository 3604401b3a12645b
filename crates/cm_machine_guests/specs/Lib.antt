pub use Rattle.cm_machine_model.specs as cm_machine_model
pub mod Allocating
pub mod Moves
pub mod Regions
pub mod Sights
