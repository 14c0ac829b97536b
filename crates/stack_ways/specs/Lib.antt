pub mod MayEnd
pub mod Laws
pub mod LineCodes
pub mod Ways
pub mod Steps
