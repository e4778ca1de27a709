-- Laws of signed offsets, of the next marked or free place, and of runs put into a buffer.
pub mod Offsets
pub mod Places
pub mod Putting
