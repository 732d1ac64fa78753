-- Lives of topics and the puts to them.
pub mod ChangedTopics
pub mod Different
pub mod FoundItems
pub mod FoundLives
pub mod ItemFacts
pub mod LowTopics
pub mod NamedAfter
pub mod OneName
pub mod OwnUids
pub mod Pairs
pub mod Puts
pub mod SavedOnce
pub mod TakenLaws
pub mod TakenPuts
pub mod TopicLaws
pub mod TopicOrder
pub mod Turns
