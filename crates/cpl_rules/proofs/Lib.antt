pub mod Walks
pub mod KnownNames
pub mod FirstPlaces
pub mod RuleSteps
pub mod RisingPlaces
