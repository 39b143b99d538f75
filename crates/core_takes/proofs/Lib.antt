pub mod Told
mod Followings
mod Repeats
mod ReadyFor
mod Rows
mod AllInputs
mod Collecting
pub mod Taking
