pub mod Owing
pub mod Steps
pub mod Kinds
