pub mod Fits
pub mod Trait
pub mod Turns
