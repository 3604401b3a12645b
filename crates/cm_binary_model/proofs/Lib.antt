pub mod Nonempty
pub mod FewItems
