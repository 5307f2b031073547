pub mod Lists
pub mod Means
pub mod Orders
pub mod Resting
pub mod Steps
