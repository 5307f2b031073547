pub mod Fairness
pub mod Matching
pub mod Steps
pub mod Laws
pub mod Meetings
pub mod Sounds
