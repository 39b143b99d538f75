pub mod Walks
pub mod RowWrites
pub mod BadValues
