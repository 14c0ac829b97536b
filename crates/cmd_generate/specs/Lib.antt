pub use Rattle.service_load
pub mod Placing
pub mod Login
pub mod Generated
pub mod RandomRules
pub mod Loads
