pub mod Asks
pub mod Files
pub mod Owners
pub mod Pages
pub mod Records
