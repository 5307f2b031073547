pub mod Spellings
pub mod Markets
pub mod Scripts
