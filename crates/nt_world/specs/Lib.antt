pub mod Frames
pub mod World
