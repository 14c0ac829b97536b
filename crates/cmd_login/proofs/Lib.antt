mod Rows
pub mod PartFacts
pub mod GoesFacts
pub mod CallSequenceFacts
pub mod LoginCallFacts
pub mod LoginStartFacts
pub mod MiddleCallFacts
pub mod TransactionEndFacts
