-- What the functions over no-fit lines compute.
pub mod Marks
