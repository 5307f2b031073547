pub mod Days
pub mod Handed
pub mod Inputs
