pub mod Digits
pub mod Ways
pub mod Taken
pub mod Read
pub mod Meant
