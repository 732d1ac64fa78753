-- What is kept of one topic for one connection.
pub mod ClientChanges
pub mod ClientIds
pub mod ClientMarks
pub mod ClientMarksById
pub mod ClientWishes
pub mod FewerOwed
pub mod GivenKeys
pub mod HandedKeys
pub mod HandedMarks
pub mod KeysOwed
pub mod MarkLaws
pub mod MarksById
pub mod OwnKeys
pub mod QueuedItems
pub mod RewantedMarks
pub mod SettingsOwed
pub mod WishChanges
