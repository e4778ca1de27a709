-- What a piece of a layout needs to slide, and what another piece leaves it.
pub mod Slidable
