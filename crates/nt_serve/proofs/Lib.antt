pub mod Moving
pub mod Taking
pub mod Hearing
pub mod Handing
pub mod Turning
pub mod Closing
pub mod Telling
