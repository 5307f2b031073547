pub mod Halves
pub mod Mends
