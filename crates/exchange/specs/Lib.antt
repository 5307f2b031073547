pub mod Phases
pub mod Ranges
pub mod Answers
pub mod Counting
pub mod Judging
pub mod Views
