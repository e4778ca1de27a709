-- Laws of the table's rows and of the weights that rise.
pub mod Rows
pub mod Rising
