-- Laws of a column, of a cell, and of a row that is walked by its cells.
pub mod Places
pub mod Effects
pub mod Rows
