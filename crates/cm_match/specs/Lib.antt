pub use Rattle.cm_match_serving.specs.cm_validate_spaces
pub mod Pairs
pub mod Before
pub mod Walks
pub mod Targets
pub mod Linked
