-- Laws of the one pass over clean rows.
pub mod Paired
pub mod Cells
pub mod Rows
pub mod JudgedPass
