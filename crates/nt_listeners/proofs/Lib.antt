pub mod Matched
pub mod Retained
