pub mod ReportTextFacts
