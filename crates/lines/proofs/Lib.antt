-- Laws of the line reader's definitions. Callers need Lines only: one turn of a loop over the lines of a text.
pub mod Lines
pub mod Trims
pub mod Search
pub mod Bytes
pub mod Hits
pub mod Lows
pub mod Matches
pub mod SliceWords
pub mod RowWords
pub mod WordBytes
