-- Distances from clear bits.
pub mod Peel
