pub mod Printing
pub mod LineFeeds
pub mod LineReads
