-- What each export answers and leaves, for every input.
pub mod Answers
