mod StepLaws
mod ReadLaws
mod SameLaws
mod PlainSame
mod WideSpelled
mod OldLaws
mod RenameLaws
mod OwnPlaces
mod MadeLaws
pub mod LawfulItems
pub mod LawfulShims
pub mod LawfulSections
pub mod LawfulFile
pub mod ShimLoop
pub mod SectionLoop
