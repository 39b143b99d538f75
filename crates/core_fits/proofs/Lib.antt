pub mod Turns
pub mod FreshAccepted
pub mod MeshesKnown
pub mod PostsFit
pub mod GiftsFit
pub mod ReachedFits
