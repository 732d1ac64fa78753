pub mod Appends
pub mod Packing
pub mod Rows
pub mod Names
pub mod Metas
