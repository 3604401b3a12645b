pub mod Expansion
pub mod Entries
pub mod Uses
pub mod Settled
pub mod TypeScopes
pub mod SettledScopes
pub mod Copies
