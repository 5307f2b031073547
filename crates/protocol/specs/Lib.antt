pub mod Faults
pub mod Worlds
pub mod Steps
pub mod Promises
pub mod Witness
