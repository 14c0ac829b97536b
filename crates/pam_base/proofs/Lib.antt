pub mod TextPartFacts
pub mod BytePositionFacts
pub mod CodeNumberFacts
pub mod TextLineFacts
