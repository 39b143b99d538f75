pub mod Mapping
pub mod MappedField
pub mod Overflows
pub mod Refusals
