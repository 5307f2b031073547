pub mod Commands
pub mod Options
pub mod Words
