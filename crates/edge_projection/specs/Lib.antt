pub mod Places
pub mod Offsets
pub mod NearestFoot
pub mod EdgeMapping
pub mod MappedField
pub mod Overflows
pub mod Refusals
