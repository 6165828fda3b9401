-- What the contracts of the writer cite, beside the definitions.
pub mod Apart
pub mod Found
pub mod Places
pub mod Standing
