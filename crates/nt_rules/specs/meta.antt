-- Meta topics.
pub mod Elements
pub mod Packing
pub mod Order
pub mod Meta
pub mod Rosters
