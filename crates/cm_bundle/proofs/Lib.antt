mod Lines
mod Given
mod ServedLaws
mod Supplying
mod SetRead
mod MakingLoops
mod Kept
mod Alike
pub mod TextLaws
pub mod MeasuredLaws
pub mod LawfulBundle
pub mod FrontLaws
pub mod FrontIs
pub mod FrontWritten
pub mod FrontLoops
pub mod Shortest
pub mod Places
pub mod EitherCode
pub mod SpellingIs
pub mod BundleIs
pub mod WrittenBundle
pub mod ReadingLoops
pub mod Items
pub mod Counting
pub mod Earlier
pub mod Refusing
pub mod ReadLaws
pub mod CustomLoop
pub mod NameLaws
