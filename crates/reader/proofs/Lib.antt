-- What a chart's lines are marks of, and the loops over them and over rows read back.
pub mod LineKinds
pub mod Plain
pub mod BackReading
pub mod PlainBack
pub mod Cuts
pub mod Marks
pub mod ChartLoops
pub mod BackLoops
