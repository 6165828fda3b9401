-- Laws of the phantom depths.
pub mod Columns
pub mod Rows
pub mod Effects
pub mod Loop
pub mod Free
pub mod Corrected
