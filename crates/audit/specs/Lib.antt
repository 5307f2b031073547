pub mod Answers
pub mod UnderWay
pub mod Delivered
pub mod Checks
pub mod Books
pub mod Keeping
pub mod Readings
