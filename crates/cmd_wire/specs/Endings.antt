-- The status with which open transactions are ended after the frames of a run (this project's own).
pub use Rattle.cmd_run.specs.Endings.{ending_status, stop_status}
