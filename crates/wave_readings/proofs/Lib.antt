pub mod Invariant
pub mod Meshes
pub mod Knowing
pub mod LooksFit
pub mod Makers
pub mod Kept
pub mod Along
pub mod AllFit
