pub mod SchemesStand
pub mod Judging
