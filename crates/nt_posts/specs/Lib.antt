pub mod Arrivals
pub mod Keeping
pub mod Memory
