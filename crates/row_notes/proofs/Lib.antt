-- Laws of the writer: the drafts end in the notes of the definition (`Model`), and how they lie in the slice.
pub mod Model
pub mod Stored
pub mod Steps
pub mod Rows
pub mod Closing
pub mod Retaining
pub mod Ending
pub mod Taps
pub mod Masks
