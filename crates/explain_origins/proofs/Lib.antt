pub mod FailedAccessFacts
pub mod PlacelessStackFacts
pub mod FileRuleFacts
pub mod SingleRuleFacts
pub mod Since
pub mod Texts
