pub mod Types
pub mod Bits
