pub mod Setting
pub mod Posted
