pub mod Counts
pub mod Streams
pub mod Files
pub mod Memory
pub mod Time
pub mod Paths
