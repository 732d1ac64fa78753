-- Histories, and what a server keeps of them.
pub mod Lives
pub mod Now
pub mod Metas
pub mod Owed
pub mod Answer
pub mod Drains
pub mod Marks
pub mod State
pub mod Trees
pub mod Step
pub mod Saved
pub mod Changes
pub mod Order
