pub use Rattle.cm_match.specs as cm_match
pub use Rattle.cm_machine_model.specs as cm_machine_model
pub use Rattle.cm_machine_guests.specs as cm_machine_guests
pub use Rattle.cm_machine_laws.specs as cm_machine_laws
pub use Rattle.cm_machine_set.specs as cm_machine_set
pub mod Player
pub mod Seeing
pub mod Watching
