pub mod Turns
pub mod Notes
pub mod Tickets
pub mod Knowledge
pub mod Rule
pub mod Steps
pub mod Seats
pub mod Passes
