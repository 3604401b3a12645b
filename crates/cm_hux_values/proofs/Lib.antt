pub mod CutLaws
pub mod TextLaws
