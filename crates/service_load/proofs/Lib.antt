mod Rows
pub mod CheckingLemmas
pub mod KindLemmas
pub mod OpenedFileFacts
pub mod NodeListFacts
pub mod FileEntryFacts
pub mod FourStackFacts
pub mod StackTreeFacts
pub mod CallCountFacts
