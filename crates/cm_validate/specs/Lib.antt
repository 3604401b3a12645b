pub use Rattle.cm_validate_spaces.specs as cm_validate_spaces
pub mod Items
pub mod Exports
pub mod Made
pub mod Numbers
