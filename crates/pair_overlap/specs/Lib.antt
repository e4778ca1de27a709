-- What the functions over strips compute, said of the lent lists alone.
pub mod Meet
pub mod Seen
