pub mod OneTables
pub mod PlaceOrders
pub mod RisingPlaces
pub mod SamePlaces
