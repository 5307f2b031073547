pub mod Fairs
