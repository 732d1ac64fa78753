pub mod Asking
pub mod Heard
pub mod Lines
pub mod Meeting
pub mod Members
pub mod Sides
pub mod Texts
