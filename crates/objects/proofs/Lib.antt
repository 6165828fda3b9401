-- Laws of the object rows.
pub mod Scan
pub mod Zeros
pub mod LastHeld
pub mod Columns
pub mod Free
