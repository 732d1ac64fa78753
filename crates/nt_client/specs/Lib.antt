pub mod Calls
pub mod Outgoing
pub mod Taking
pub mod Clock
pub mod Sorted
pub mod Names
pub mod Kept
