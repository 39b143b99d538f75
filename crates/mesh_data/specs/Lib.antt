pub mod AnyMeshes
pub mod Meshes
pub mod Nearest
pub mod Points
pub mod Refusals
