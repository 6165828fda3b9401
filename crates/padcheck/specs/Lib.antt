-- What the contracts of the entries cite, beside the definitions.
pub mod Told
