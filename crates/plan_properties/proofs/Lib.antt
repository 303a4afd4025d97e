pub mod AskingLemmas
pub mod ConjunctLemmas
mod ElementwiseLemmas
pub mod FilterLemmas
mod HarmlessLemmas
mod PartLemmas
mod RowLemmas
mod RowOpLemmas
mod ScalarLemmas
mod SideLemmas
pub mod SplittingLemmas
