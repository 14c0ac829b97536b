mod Rows
pub mod Ready
pub mod FirstReplyFacts
pub mod QueueReplyFacts
pub mod TypedReplyFacts
pub mod ExchangeFacts
pub mod NoReplyFacts
