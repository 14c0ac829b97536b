mod CachedPassFacts
mod StackTypeFacts
mod WaitRecordFacts
mod AllPassesFacts
mod OutOfMemoryFacts
mod CallTraceFacts
mod PassRecordFacts
mod MissingModuleFacts
mod FlatStackFacts
mod Rows
mod AuthenticationWaitFacts
mod Tokens
mod StackCallFacts
mod AfterPassesFacts
pub mod EachPassFacts
