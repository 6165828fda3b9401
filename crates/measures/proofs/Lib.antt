-- Laws of the measure that a chart's lines begin with, as it is written, and of those that were read.
pub mod Writing
pub mod Reading
