pub mod OnLiterals
mod KnownAlike
mod PhaseSteps
mod WindowsFollow
