pub use Rattle.explain_lines
pub use Rattle.module_table
pub mod Fields
pub mod Rows
pub mod Controls
pub mod Rules
pub mod Told
pub mod Service
