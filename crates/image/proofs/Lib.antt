pub mod Images
pub mod Changes
pub mod Landings
pub mod Meanings
