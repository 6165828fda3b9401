-- What the contracts of the judged tallies cite, beside the definitions.
pub mod Timing
pub mod Clean
pub mod JudgedPass
