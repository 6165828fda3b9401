-- What the contracts of the form `json` cite, and what it prints for an example.
pub mod Json
pub mod Example
