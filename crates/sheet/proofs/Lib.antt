-- Laws of the lines.
pub mod Names
