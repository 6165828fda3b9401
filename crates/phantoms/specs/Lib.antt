-- What the contracts of the phantom depths cite, beside the definitions.
pub mod Phantoms
