pub mod Age
pub mod Call
