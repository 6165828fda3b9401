-- Laws of the tallies, by topic.
pub mod Sums
pub mod Bounds
pub mod Tallies
pub mod Loops
pub mod Kept
pub mod Raised
pub mod Before
pub mod Ends
pub mod Heads
pub mod Rows
pub mod Zeros
pub mod Taps
