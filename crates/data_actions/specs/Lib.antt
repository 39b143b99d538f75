pub mod Totals
pub mod Fit
pub mod SummedValues
pub mod SoundSums
pub mod SummedSolver
pub mod EntrySums
