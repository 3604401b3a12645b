pub mod Items
pub mod Walks
pub mod Checked
pub mod Exported
pub use Rattle.cm_validate_entries.specs as cm_validate_entries
pub mod Made
pub mod IndexSpaces
pub mod ComponentEntries
pub mod Making
