pub use Rattle.cm_types.specs as cm_types
pub mod Premises
pub mod PrintFaults
pub mod SpelledNames
pub mod Quotes
pub mod Spelling
pub mod Written
pub mod CaseNames
pub mod Reasons
pub mod ReadFaults
pub mod Grammar
pub mod Exact
pub mod Reading
pub mod Words
pub mod Lists
pub mod Quoted
pub mod Values
pub mod Whole
