pub mod Quotients
pub mod Products
pub mod Squares
pub mod ValueTests
pub mod SignedProducts
