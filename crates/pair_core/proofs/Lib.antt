pub mod Histories
pub mod Takes
pub mod Legal
