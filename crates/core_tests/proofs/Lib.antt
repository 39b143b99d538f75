pub mod TrioOrder
