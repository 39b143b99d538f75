pub mod LineParts
pub mod ToldMeshes
pub mod RigsMade
pub mod ValuesFit
pub mod RigsFit
