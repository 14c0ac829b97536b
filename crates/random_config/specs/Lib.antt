pub mod Generator
pub mod Line
pub mod Files
