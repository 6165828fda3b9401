-- What the contracts of the form `print` cite, and what it prints for an example.
pub mod Print
pub mod Example
