pub mod Digits
pub mod Decimals
pub mod Parts
pub mod Meanings
pub mod Printed
pub mod Shape
pub mod WholeParts
