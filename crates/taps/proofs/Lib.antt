-- Laws of the masks.
pub mod Tables
pub mod Masks
pub mod Sums
pub mod Words
pub mod Free
pub mod Marks
