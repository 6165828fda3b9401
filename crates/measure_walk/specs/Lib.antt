-- What the contracts of a walk cite, beside the definitions.
pub mod Views
