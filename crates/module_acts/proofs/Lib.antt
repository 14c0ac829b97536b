mod ReadResultFacts
pub mod FileStepFacts
mod TransactionStepFacts
mod ReturnedResultFacts
mod Talks_on
mod DecisionFacts
