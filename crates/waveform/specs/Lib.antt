pub mod Shape
pub mod IsWave
pub mod WaveValue
pub mod Between
