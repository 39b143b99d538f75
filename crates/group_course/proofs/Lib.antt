pub mod Roots
pub mod StoreWords
pub mod Newest
pub mod Maps
pub mod OfPlan
pub mod ReadLengths
pub mod Outlines
pub mod Relaxables
pub mod RelaxedSteps
pub mod OldValues
mod Leads
mod Scans
mod Errors
mod Faults
mod Verdicts
pub mod ReadWaves
