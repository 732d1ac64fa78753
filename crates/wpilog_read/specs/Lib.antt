pub mod Names
pub mod Meaning
pub mod Reading
pub mod Run
