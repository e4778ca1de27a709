-- Laws of the walk over two stretches, and what the lists' definitions come to for pixel sets.
pub mod Walk
pub mod Shapes
