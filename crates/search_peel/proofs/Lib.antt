-- Laws of distances.
pub mod Windows
pub mod Places
pub mod Layers
