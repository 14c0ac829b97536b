pub mod CallSequenceFacts
pub mod FirstSlotFacts
pub mod FileSequenceFacts
pub mod LoginAttemptFacts
pub mod OutputFacts
mod RuleLineFacts
mod Lines
mod GeneratedRuleFacts
mod Lengths
mod StoredFileFacts
mod LoadSizeFacts
mod FaultlessLoadFacts
mod Written
