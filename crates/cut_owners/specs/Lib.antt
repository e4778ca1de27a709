-- What the functions of the crate say of one another.
pub mod OwnersPainted
