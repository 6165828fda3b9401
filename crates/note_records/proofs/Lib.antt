-- Laws of stores to blocks of ten bytes, of the chunks that records are, and of the checks of all records.
pub mod Blocks
pub mod Chunks
pub mod Kept
pub mod Order
