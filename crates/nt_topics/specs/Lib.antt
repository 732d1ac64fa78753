pub mod Names
pub mod Paths
pub mod Properties
pub mod TreeCode
pub mod Trees
