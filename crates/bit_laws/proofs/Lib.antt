-- The laws of bits.
pub mod Laws
pub mod Lowest
pub mod Highest
pub mod Strings
pub mod Wider
