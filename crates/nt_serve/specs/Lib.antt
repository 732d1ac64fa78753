pub mod Steps
pub mod Rounds
pub mod Handing
pub mod Sessions
pub mod Told
