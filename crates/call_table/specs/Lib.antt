pub mod CallMatrix
pub mod Tables
