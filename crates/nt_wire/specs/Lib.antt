pub mod Frames
pub mod Memory
