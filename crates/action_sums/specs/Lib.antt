pub mod ActionSums
