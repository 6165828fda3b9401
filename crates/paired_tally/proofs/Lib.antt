-- Laws of the paired tally, by topic.
pub mod Numbers
pub mod Sums
pub mod Keep
pub mod Counts
pub mod Columns
pub mod Step
pub mod RowEnds
pub mod Reading
pub mod TapRows
pub mod FreeRows
pub mod Bounds
pub mod Entries
pub mod Heads
pub mod Within
pub mod Rows
pub mod Begin
