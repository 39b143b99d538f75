pub mod VerticesIn
pub mod Newest
