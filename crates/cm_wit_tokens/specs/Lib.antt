pub use Rattle.cm_types.specs as cm_types
pub mod Keywords
pub mod Operators
pub mod Comments
pub mod Runs
pub mod Tokens
pub mod LexedViews
pub mod Forms
pub mod Reasons
pub mod Faults
pub mod Grammar
pub mod Reading
pub mod Exact
pub mod Parts
pub mod Lists
pub mod Whole
