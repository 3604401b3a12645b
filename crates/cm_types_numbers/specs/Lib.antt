pub mod Tables
pub mod Numbering
pub mod Knowing
pub mod Moved
pub mod PlacedTables
