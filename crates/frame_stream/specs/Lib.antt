pub mod Looked
pub mod Run
pub mod Laws
pub mod Spelled
