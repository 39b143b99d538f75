pub mod TreeValues
pub mod ConfigOf
pub mod SoundConfig
pub mod Acceptance
pub mod FirstFault
pub mod NoFault
pub mod Answers
