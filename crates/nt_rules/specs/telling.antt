-- What a connection was told, and what it should hold by that.
pub mod Told
pub mod Due
