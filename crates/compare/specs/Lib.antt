-- What the contracts of the comparisons cite, beside the definitions.
pub mod Agreement
