pub mod Limits
pub mod Sorted
pub mod topics
pub mod meta
pub mod outbox
pub mod history
pub mod telling
