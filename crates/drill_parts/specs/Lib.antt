pub mod Plans
pub mod Logs
pub mod Tails
