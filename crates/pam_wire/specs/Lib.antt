pub mod Kind
pub mod Frame
pub mod Read
pub mod Stream
pub mod Laws
