pub mod Cycle
pub mod Edges
pub mod GroupTests
pub mod Groups
pub mod Heads
pub mod NodeOrder
pub mod Renaming
