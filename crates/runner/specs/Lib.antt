pub mod Tokens
pub mod Hands
pub mod Events
pub mod Playing
pub mod Running
pub mod Outcomes
