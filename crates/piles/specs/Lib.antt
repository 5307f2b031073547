pub mod Bases
pub mod Shapes
pub mod Builds
