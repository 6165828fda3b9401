-- What the contracts of the list cite, beside the definitions.
pub mod Listed
pub mod TextOf
