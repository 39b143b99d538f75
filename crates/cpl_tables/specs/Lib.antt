pub mod Words
pub mod KeyRule
pub mod Keys
pub mod Places
pub mod PlaceOrder
pub mod Values
pub mod PlaceText
