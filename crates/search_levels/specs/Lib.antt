-- Levels of widened marks in one slice.
pub mod Levels
