pub mod Input
pub mod Lines
pub mod Reply
pub mod Printing
pub mod LineReading
