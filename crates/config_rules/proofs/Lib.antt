pub mod RuleSteps
pub mod Answered
pub mod Counts
pub mod Scans
