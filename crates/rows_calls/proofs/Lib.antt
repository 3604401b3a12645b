pub mod RequestLemmas
mod TableLemmas
