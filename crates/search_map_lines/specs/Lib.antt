-- Penalty lines from maps.
pub mod Line
