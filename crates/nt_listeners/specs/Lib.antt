pub mod Matching
pub mod Memory
pub mod Rosters
pub mod Telling
pub mod Tellings
