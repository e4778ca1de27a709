-- Laws of the cut list (document 02, point 2).
pub mod Lines
pub mod Unique
pub mod Lengths
pub mod Steps
pub mod Sides
pub mod Owners
pub mod Millimetres
pub mod Exact
pub mod CutClaims
