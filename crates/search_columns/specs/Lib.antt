-- Distances down a column of a map.
pub mod Column
