-- What the shapes of a job are, as two lent buffers hold them.
pub mod Shapes
