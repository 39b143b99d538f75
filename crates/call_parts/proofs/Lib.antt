mod BadCoordinates
mod JoinKept
pub mod RowsPut
mod InputsSoFar
pub mod Latest
