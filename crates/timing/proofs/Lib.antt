-- Laws of the loop over the measures, and of what the call answers.
pub mod Timed
