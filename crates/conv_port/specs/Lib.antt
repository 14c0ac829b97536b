pub mod Message
pub mod Conv
pub mod Queue
pub mod Terminal
