pub mod Stretches
pub mod Places
pub mod NoSums
pub mod OneSum
pub mod Targets
pub mod Entries
