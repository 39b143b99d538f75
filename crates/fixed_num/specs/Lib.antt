pub mod Numbers
pub mod Norm
pub mod Relaxation
