pub mod Alone
pub mod CleanupRecordFacts
pub mod Commands
pub mod LoggingIn
pub mod Statuses
pub mod RunStatusFacts
pub mod WireStatusFacts
pub mod Under
