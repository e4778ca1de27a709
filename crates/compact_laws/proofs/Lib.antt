-- Laws of pushing left and down (document 02, point 7).
pub mod Slides
pub mod Rest
pub mod Compact
