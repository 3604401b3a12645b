pub mod MoveLaws
pub mod PairLaws
pub mod Follow
pub mod Walking
