pub mod ReportOutputFacts
pub mod OutputFacts
pub mod ExitStatusFacts
