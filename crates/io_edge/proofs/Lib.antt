pub mod ShelvedFiles
pub mod TakenBytes
