pub mod ServiceOutputFacts
pub mod OutputFacts
pub mod ExitStatusFacts
pub mod TableOutputFacts
