-- What reading by lines means to a loop: a chart, and minimised text read back.
pub mod Reading
pub mod Marks
pub mod ChartLines
