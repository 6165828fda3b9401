-- What the contracts of the kept-row pass cite, beside the definitions.
pub mod Kept
