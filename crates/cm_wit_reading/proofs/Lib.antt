pub mod InterfaceLaws
pub mod WorldLaws
pub mod FileLaws
pub mod TypeLaws
pub mod TypesSeen
pub mod SignatureLaws
pub mod TreesLaws
