mod ItemLaws
mod RangeLaws
pub mod NumberLaws
pub mod RootLaws
pub mod FollowLaws
pub mod SharedLaws
