pub mod Kept
pub mod Keys
pub mod Rising
pub mod PathLemmas
pub mod Sendable
