pub mod Seen
pub mod SeenTables
pub mod BrokenRules
pub mod FirstBroken
pub mod Refused
pub mod KnownNames
pub mod FewItems
