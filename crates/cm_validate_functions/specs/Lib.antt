pub use Rattle.cm_validate_spaces.specs as cm_validate_spaces
pub mod FuncNames
pub mod Leading
pub mod Options
pub mod Lifts
pub mod Used
pub mod CoreTypes
pub mod Tables
pub mod Kept
pub mod Functions
