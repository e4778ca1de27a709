-- Strips added to marks.
pub mod Marks
