pub mod Lists
pub mod Distinct
pub mod WordTexts
pub mod PlaceOrders
pub mod VisibleNames
