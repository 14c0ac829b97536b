mod ProbeStateFacts
mod Rows
