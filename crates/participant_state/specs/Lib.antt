pub mod Member
pub mod Kept
pub mod Together
pub mod Agenda
pub mod Answered
