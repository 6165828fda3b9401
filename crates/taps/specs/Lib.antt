-- What the contracts of the masks cite, beside the definitions.
pub mod Taps
