pub mod LogPrints
pub mod LogFeeds
pub mod LogReplies
pub mod TellLines
