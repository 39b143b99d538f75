pub mod RowWrites
pub mod SourceSums
pub mod Places
pub mod NearestVertices
pub mod MapLaws
pub mod FirstOverflows
