mod FirstLaws
mod PlacedLaws
pub mod ReplacedLaws
mod KindLaws
