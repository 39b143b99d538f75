pub mod Block
pub mod Boxes
pub mod Candidates
pub mod Cells
pub mod Chains
pub mod GriddedMesh
pub mod Looking
pub mod Places
