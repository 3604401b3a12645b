pub mod Running
pub use Rattle.cm_machine_parts.specs as cm_machine_parts
