pub mod Samples
pub mod Through
