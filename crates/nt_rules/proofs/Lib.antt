pub mod Positions
pub mod Calls
pub mod Search
pub mod Sendable
