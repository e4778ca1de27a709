-- Laws of the slide over two stretches, and what it comes to for pixel sets.
pub mod Slide
pub mod Shapes
pub mod Rooms
