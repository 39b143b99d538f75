pub mod Change
pub mod Holds
pub mod Verdict
pub mod Causes
