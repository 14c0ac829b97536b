mod Rows
mod ReportLineFacts
