mod StatusPaddingFacts
pub mod WordCutFacts
pub mod Numbers
pub mod QuotedTextFacts
pub mod Known
pub mod Forms
pub mod LineFormFacts
pub mod NewlineFacts
pub mod Commands
pub mod Tested
mod Rows
