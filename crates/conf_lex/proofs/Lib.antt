mod Rows
pub mod Once
pub mod Every
pub mod TextUnitFacts
pub mod TakingPieces
pub mod NulByteFacts
pub mod JoinedLineFacts
pub mod FirstFaultFacts
pub mod Answered
