pub mod Sides
pub mod Knowing
pub mod Tables
pub mod Answers
pub use Rattle.cm_validate_spaces.specs as cm_validate_spaces
pub use Rattle.cm_validate_spaces.specs.cm_validate_entries
pub mod Sets
pub mod Candidates
pub mod Linkings
pub mod Readings
pub mod Greatest
pub mod Unversioned
pub mod ExportTables
pub mod Components
pub mod ToldSets
