pub use Rattle.cm_machine.specs as cm_machine
pub use Rattle.cm_validate_functions.specs as cm_validate_functions
pub mod Faults
pub mod Calls
pub mod Passing
pub mod Seats
pub mod Serving
