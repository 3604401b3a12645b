pub mod Powers
pub mod GroupLaws
pub mod UnsignedLaws
pub mod SignedLaws
pub mod ShortestLaws
