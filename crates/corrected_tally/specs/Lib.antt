-- What the contracts of the recount cite, beside the definitions.
pub mod Room
