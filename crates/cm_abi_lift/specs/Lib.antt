pub mod FlatReading
pub mod FlatRecords
pub mod HandingOver
pub mod Lifts
pub mod Keeping
pub mod Records
pub mod Telling
