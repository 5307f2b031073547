pub mod Gets
pub mod Loading
pub mod Puts
pub mod Trips
