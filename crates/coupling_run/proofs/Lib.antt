pub mod Plain
pub mod SameTrees
pub mod Accepting
pub mod Turns
pub mod Windows
pub mod Truncated
pub mod Asks
