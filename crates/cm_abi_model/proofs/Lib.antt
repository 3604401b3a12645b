pub mod InTurn
pub mod ShownForms
pub mod OneValue
pub mod StoredBytes
pub mod SizesAskedFor
pub mod StoredOnce
pub mod StoredRegions
pub mod StoredShows
mod NumberLaws
mod BitLaws
mod FrameLaws
mod TruthLaws
mod FlagLaws
mod PlaceLaws
mod FieldLaws
mod StringLaws
mod AskingLaws
mod PassedLaws
mod StoredLaws
mod LoweredLaws
pub mod ReceivedStays
pub mod NoStrings
pub mod NothingMet
pub mod MetThere
pub mod OneAcross
pub mod TakenLaws
pub mod AskedFor
pub mod AskedStays
pub mod StringSizes
pub mod AnsweredLaws
pub mod AnsweringLaws
pub mod FaultLaws
pub mod GivingLaws
pub mod NumbersLaws
pub mod PartsLaws
pub mod ReceivesLaws
pub mod RequestsLaws
pub mod SharedLaws
pub mod TakenLemmas
pub mod TellingLaws
pub mod TextsLaws
