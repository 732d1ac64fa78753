pub mod Patterns
pub mod Nearest
pub mod RoundedOff
pub mod Wholes
pub mod Formats
pub mod OneAnswer
pub mod Sendable
