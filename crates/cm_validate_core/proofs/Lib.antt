mod NameLaws
mod PlaceLaws
mod SpaceLaws
mod OptionLaws
mod CanonLaws
mod TextLaws
mod InstanceLaws
mod StayLaws
pub mod NamePlaceLaws
mod NameSetLaws
pub mod DistinctLaws
