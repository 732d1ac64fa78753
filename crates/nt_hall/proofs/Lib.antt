pub mod Histories
pub mod Keeping
pub mod Acting
pub mod Turning
pub mod Closing
