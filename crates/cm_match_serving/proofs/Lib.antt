mod Known
mod Same
pub mod Judging
mod Walks
pub mod Rows
mod Seeing
mod CandidateRows
mod Links
mod Found
mod GreatestLaws
mod Additions
pub mod UnversionedLaws
mod VersionOrders
mod SeriesRows
mod Splits
mod FitLaws
mod CaretRows
mod Following
