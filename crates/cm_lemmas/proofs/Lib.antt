pub mod Bools
pub mod Equations
pub mod Lists
pub mod Numbers
pub mod Options
pub mod Orders
pub mod Results
