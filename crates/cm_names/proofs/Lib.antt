pub mod FindingLaws
pub mod TextLaws
pub mod KeyLaws
pub mod NumberLaws
