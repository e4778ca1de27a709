-- Laws of lent stretches and of no-fit lines.
pub mod Owning
pub mod Lined
pub mod NoFits
