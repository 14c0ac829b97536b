pub use Rattle.report_step.specs.pam_handle
pub use Rattle.report_step.specs.pam_library
pub mod Check
