pub mod CaseValues
pub mod CaseKinds
pub mod SoundCases
pub mod CasePlaces
pub mod CaseFaults
