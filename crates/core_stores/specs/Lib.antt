pub mod StoresStand
pub mod StoreMoves
