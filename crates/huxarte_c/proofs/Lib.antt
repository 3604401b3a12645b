mod PlayLaws
pub mod SetLaws
pub mod Values
pub mod WrittenLaws
