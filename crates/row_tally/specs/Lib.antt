-- What the contracts of the tallies cite, beside the definitions.
pub mod Before
pub mod Bounds
pub mod Ends
pub mod Masked
pub mod Raised
pub mod Sums
pub mod Taps
