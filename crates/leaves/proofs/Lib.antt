-- Laws of the powers of two that divide a number of 64 bits.
pub mod Powers
