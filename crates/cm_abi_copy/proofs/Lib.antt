mod ProgramLemmas
pub mod FlatLemmas
mod HandedCounts
pub mod HandleLemmas
pub mod FlatLaws
pub mod CallLemmas
mod CountLaws
mod SettledLaws
mod CopyLaws
pub mod CopyLemmas
pub mod ReadLemmas
pub mod StoredLemmas
pub mod BulkLemmas
pub mod SizeLaws
pub mod LeafLaws
pub mod FoundLaws
pub mod FlatTells
mod TagLaws
pub mod ScanCallLemmas
pub mod NothingLaws
mod CallPutsLemmas
pub mod PutWithin
pub mod PutsShown
pub mod PutsAreReady
pub mod PutCallLemmas
