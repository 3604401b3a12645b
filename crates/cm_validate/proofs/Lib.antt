pub mod ItemLaws
pub mod MadeLaws
pub mod ExternLaws
pub mod NumberLaws
