pub mod Lines
pub mod CasePoints
pub mod CaseMeshes
pub mod CaseRigs
pub mod FitRigs
