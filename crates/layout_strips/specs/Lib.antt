-- The strips of a layout's pieces in a store, some of them made.
pub mod Kept
