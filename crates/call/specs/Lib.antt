pub mod Clearing
pub mod Crossing
pub mod Fairness
pub mod Steps
pub mod Laws
pub mod Pairings
pub mod Sounds
pub mod Clearings
