-- A layout buffer as the pieces are pushed in it, and the outcome of the call.
pub mod Written
pub mod Outcomes
