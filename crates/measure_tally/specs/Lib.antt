-- What the contracts of the counting cite, beside the definitions.
pub mod Counted
pub mod Cells
