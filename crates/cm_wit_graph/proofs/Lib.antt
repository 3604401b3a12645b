pub mod MarkLaws
pub mod GraphLaws
pub mod CycleLaws
pub mod EdgeLaws
mod ReachLaws
mod WalkLaws
mod RankLaws
mod WaitLaws
mod StandLaws
