pub mod Loading
pub mod Real
