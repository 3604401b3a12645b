pub use Rattle.cm_match.specs as cm_match
pub use Rattle.cm_shims.specs as cm_shims
pub mod Called
pub mod StubFiles
