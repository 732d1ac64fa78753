pub mod Words
pub mod Lines
pub mod Hexadecimal
pub mod Desk
pub mod DeskRun
pub mod Tool
