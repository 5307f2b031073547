pub mod Pieces
pub mod Paging
pub mod Running
pub mod Readings
pub mod Opening
