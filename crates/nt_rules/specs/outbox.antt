-- What one connection is owed.
pub mod Keys
pub mod Marks
pub mod Messages
pub mod Calls
pub mod Replies
