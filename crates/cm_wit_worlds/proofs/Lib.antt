mod KeyingLaws
mod LabelLaws
mod ListingLaws
mod ListLaws
mod NamedLaws
mod OrderLaws
