pub mod CaseOf
pub mod SoundCase
pub mod CaseAcceptance
pub mod FirstCaseFault
pub mod NoCaseFault
