-- Laws of a layout buffer that is copied and of the loop over the rounds.
pub mod Rounding
