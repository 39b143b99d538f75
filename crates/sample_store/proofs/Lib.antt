pub mod Looks
pub mod Orders
pub mod Stands
pub mod Mapped
