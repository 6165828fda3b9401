-- Laws of the scans.
pub mod Raw
pub mod Filling
pub mod Steps
pub mod Strides
pub mod Spaces
pub mod LastRaw
pub mod Looking
