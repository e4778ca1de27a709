-- Laws of a piece that slides.
pub mod Boxes
pub mod Rooms
