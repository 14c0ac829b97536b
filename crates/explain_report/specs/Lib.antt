pub use Rattle.explain_calls
pub use Rattle.explain_lines
pub use Rattle.session_audit
pub mod Report
