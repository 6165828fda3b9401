pub mod Cells
pub mod Rows
pub mod Lines
pub mod Walk
pub mod Front
