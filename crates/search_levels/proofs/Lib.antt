-- Laws of levels in one slice.
pub mod Within
pub mod Growing
