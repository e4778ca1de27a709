-- Kept maps.
pub mod Store
