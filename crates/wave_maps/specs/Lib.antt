pub mod MappedThrough
pub mod Refusals
