pub mod Listening
pub mod InputLengths
pub mod RowsKept
