pub mod Meaning
pub mod Faults
pub mod Calls
pub mod Runs
pub mod Laws
pub mod Shift
