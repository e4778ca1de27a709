-- Laws of boxes beside a line.
pub mod Tracks
