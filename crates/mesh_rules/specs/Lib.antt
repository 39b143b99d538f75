pub mod Entries
pub mod Spots
pub mod Named
pub mod MeshRules
pub mod ActionRules
pub mod OneTable
