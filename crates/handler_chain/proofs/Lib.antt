mod WalkRows
pub mod Negativity
pub mod CachedRouteFacts
pub mod CachedCodeFacts
pub mod Complete
pub mod ServedLineFacts
pub mod ResumedPassFacts
pub mod PathLaws
pub mod ReplayedWalkFacts
pub mod IncompleteWalkFacts
mod Rows
pub mod NodeListFacts
pub mod RestOfStackFacts
pub mod AddedNodeFacts
pub mod StackLineFacts
pub mod Found
