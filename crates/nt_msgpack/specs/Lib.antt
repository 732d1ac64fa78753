pub mod Atoms
pub mod Reading
