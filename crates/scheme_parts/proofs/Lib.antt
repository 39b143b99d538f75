pub mod Lookups
pub mod Tables
pub mod NamedTables
pub mod PartsMade
pub mod Ranges
