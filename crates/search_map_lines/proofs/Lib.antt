-- Laws of lines from maps.
pub mod Grid
pub mod Penalties
pub mod Rows
pub mod Lines
