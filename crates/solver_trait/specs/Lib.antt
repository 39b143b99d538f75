pub mod Behaviour
pub mod Step
