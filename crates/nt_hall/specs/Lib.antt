pub mod Weight
pub mod Journals
pub mod Kept
pub mod Histories
pub mod Locked
pub mod Turns
