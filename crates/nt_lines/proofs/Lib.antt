pub mod Escapes
pub mod Parts
pub mod ValueTells
pub mod TellLines
