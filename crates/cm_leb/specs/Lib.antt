pub mod Numbers
pub mod NumbersRead
pub mod NumbersWritten
