pub mod Faults
pub mod HexBytes
pub mod LineFaults
pub mod Moves
pub mod Numbers
pub mod Statements
