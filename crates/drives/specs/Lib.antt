pub mod Drives
pub mod Schedules
