pub mod Wholes
pub mod InTurn
pub mod Cuts
pub mod Asks
pub mod ReadCases
