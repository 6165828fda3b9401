-- Laws of the cells, by topic.
pub mod Arms
pub mod Arrows
pub mod Ends
pub mod RowWords
pub mod ZeroRows
pub mod Letters
