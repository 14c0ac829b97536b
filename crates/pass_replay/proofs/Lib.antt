pub mod ListRestFacts
pub mod RecordedLineFacts
pub mod CodeCellFacts
pub mod RestOfStackFacts
pub mod ReplayedLineFacts
pub mod NodeWalkFacts
pub mod PassResultFacts
pub mod OnePassFacts
