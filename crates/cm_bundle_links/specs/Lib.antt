pub use Rattle.cm_bundle.specs as cm_bundle
pub mod Reasons
pub mod Links
pub mod Tables
