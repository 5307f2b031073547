pub mod Firsts
pub mod Owns
pub mod Sectors
