pub mod Commands
pub mod Headers
pub mod Kinds
pub mod LittleEndian
pub mod Notices
pub mod Pages
pub mod Refusals
pub mod Sectors
