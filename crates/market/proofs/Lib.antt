pub mod ListLaws
pub mod Ranks
pub mod Rows
pub mod Sounds
pub mod StepLaws
