pub use Rattle.explain_lines
pub use Rattle.service_load
pub mod Placed
pub mod Reading
