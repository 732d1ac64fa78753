pub mod histories
pub mod topics
pub mod metas
pub mod marks
pub mod outboxes
