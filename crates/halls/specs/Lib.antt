pub mod Bodies
pub mod Codes
pub mod Courses
pub mod Files
pub mod Openings
pub mod Owners
pub mod Sizes
pub mod Stands
