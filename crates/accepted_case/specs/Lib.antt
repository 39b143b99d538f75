pub mod Acceptance
pub mod Loaded
pub mod Answers
pub mod IsAcceptedCase
pub mod MayLoad
