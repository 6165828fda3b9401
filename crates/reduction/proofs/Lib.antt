-- Laws of this crate's contracts, by topic.
pub mod RowsAt
pub mod Powers
pub mod Strides
pub mod Search
pub mod Moves
pub mod Multiples
pub mod Placed
pub mod Blocks
pub mod Compaction
pub mod Forms
