pub mod Choices
pub mod Layouts
pub mod Places
pub mod Slots
