-- Laws of pieces that a call on a pair may measure.
pub mod Readies
