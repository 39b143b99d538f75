pub mod AtPlace
pub mod Named
pub mod Queued
pub mod ReadKept
pub mod Vertices
pub mod WriteKept
pub mod WriteSteps
