-- Laws of what is noted, and of ordinary rows.
pub mod Rows
pub mod Runs
