mod KeyLaws
mod NameLaws
mod LeadingLaws
mod LiftLaws
mod HeldLaws
mod FlatLaws
