pub mod Members
pub mod Circles
pub mod SchemeRules
pub mod WindowRules
pub mod ConfigRules
