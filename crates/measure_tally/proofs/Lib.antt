-- Laws of what is counted: its start, one row more, and a measure's end.
pub mod Rows
pub mod Cells
pub mod Line
pub mod Places
