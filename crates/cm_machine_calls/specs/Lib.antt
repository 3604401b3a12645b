pub mod Lifting
pub mod Handing
pub mod Going
pub mod Answering
pub mod Calling
pub use Rattle.cm_machine_parts.specs as cm_machine_parts
pub mod Staying
