-- Topics, their changes, and puts.
pub mod Topics
pub mod Changes
pub mod Puts
pub mod Apart
