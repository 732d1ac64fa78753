pub mod Forms
pub mod Spellings
pub mod Numbers
pub mod Shortest
pub mod Fewest
