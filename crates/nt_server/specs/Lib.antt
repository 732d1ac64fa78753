pub mod Connections
pub mod MetaWishes
pub mod TakenPlaces
pub mod View
