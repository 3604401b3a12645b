mod FoundLaws
mod GivenLaws
mod LinkLaws
mod RowLaws
mod TableLaws
