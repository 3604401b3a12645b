pub mod PrintLaws
mod Lexing
mod Goods
mod WordLaws
mod NumberLaws
mod Marks
mod TextTokens
mod Chains
mod ListLaws
mod ItemLaws
mod TypeLaws
mod FileLaws
pub mod PrintedFileLaws
pub mod PlaceLaws
pub mod ParseLaws
pub mod PrintedLaws
pub mod MentionLaws
