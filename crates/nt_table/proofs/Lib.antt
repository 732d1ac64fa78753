pub mod Numbers
pub mod Filed
pub mod Leaving
pub mod Steps
pub mod Search
pub mod Sendable
