-- Laws of a layout buffer that is written again.
pub mod Rewriting
