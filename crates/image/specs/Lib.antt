pub mod Image
pub mod Fuses
pub mod Waiting
