pub mod Stamp
pub mod Ready
