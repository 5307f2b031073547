pub mod Fetches
pub mod Openings
pub mod Pagings
pub mod Rows
