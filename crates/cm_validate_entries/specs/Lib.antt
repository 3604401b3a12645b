pub use Rattle.cm_validate_types.specs as cm_validate_types
pub mod Entries
pub mod ComponentSpaces
pub mod Steps
