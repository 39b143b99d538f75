mod ChangeSquares
mod NoChange
mod Rows
mod Scans
mod Places
mod Verdicts
