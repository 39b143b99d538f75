pub mod DataOf
pub mod ExampleConfig
pub mod MeshOf
pub mod Nodes
pub mod PartOf
pub mod PlanOf
pub mod WindowsOf
