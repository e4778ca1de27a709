-- Strings of bits moved up into others.
pub mod Words
