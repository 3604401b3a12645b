pub mod Adding
pub mod Dropping
pub use Rattle.cm_machine_parts.specs as cm_machine_parts
