-- Laws of a descent under way.
pub mod Passes
