-- What the contracts of the scans cite, beside the definitions.
pub mod Spaces
