pub mod WrittenEntries
pub mod FitSums
