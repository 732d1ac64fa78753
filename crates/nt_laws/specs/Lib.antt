pub mod Ids
pub mod Touched
