pub mod HexBytesLaws
pub mod NumberLaws
pub mod StatementLaws
pub mod WriteLaws
pub mod ReadLaws
