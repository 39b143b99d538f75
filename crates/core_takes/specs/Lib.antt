pub mod Numbered
pub mod Held
pub mod Ready
pub mod Readable
pub mod Collected
