pub mod LineValues
pub mod FoundPlaces
pub mod ReadRows
