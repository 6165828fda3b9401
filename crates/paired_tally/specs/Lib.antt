-- What the contracts of the paired tally cite, beside the definitions.
pub mod Entry
pub mod Paired
pub mod Cells
pub mod Ends
pub mod Free
