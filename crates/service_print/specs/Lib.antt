pub use Rattle.control_words
pub use Rattle.service_load
pub mod Tokens
pub mod Controls
pub mod Printed
pub mod Reload
pub mod Filling
