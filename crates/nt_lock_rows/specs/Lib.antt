pub mod Boards
pub mod Crowds
