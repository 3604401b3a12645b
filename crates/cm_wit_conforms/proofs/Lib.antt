mod WalkLaws
mod PlacedLaws
mod FaultLaws
mod JudgeLaws
mod FirstLaws
mod PairLaws
mod MoreLaws
mod ItselfLaws
mod TakenLaws
mod SearchLaws
mod NoteLaws
mod JudgedLaws
mod KeptLaws
pub mod MapLaws
pub mod ListingLaws
pub mod ListLaws
pub mod NumberLaws
pub mod PlaceLaws
pub mod HitLaws
pub mod MeetLaws
