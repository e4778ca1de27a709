-- What the functions of the crate say of one another.
pub mod Scan
pub mod Put
pub mod Compare
