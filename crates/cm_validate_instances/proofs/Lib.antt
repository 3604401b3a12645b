mod TextLaws
mod MemberSketchLaws
mod MemberLaws
mod NameLaws
mod GatherLaws
pub mod ItemFaultLaws
pub mod ItemNameLaws
pub mod SketchScopeLaws
pub mod InstanceLaws
pub mod PassLaws
pub mod GrowLaws
pub mod SettledLaws
pub mod ScopeLaws
pub mod BrokenLaws
pub mod MovedLaws
pub mod PropLaws
pub mod SketchLaws
pub mod DefinitionFaultLaws
pub mod MoveLaws
