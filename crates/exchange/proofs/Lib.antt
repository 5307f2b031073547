pub mod Cutting
pub mod Opening
pub mod Refusing
