pub mod Participants
pub mod Watched
