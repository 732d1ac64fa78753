pub mod Members
pub mod Arrays
pub mod Depths
pub mod Subscriptions
pub mod Sendable
