pub mod Elements
pub mod Params
pub mod Client
pub mod Server
pub mod Frame
