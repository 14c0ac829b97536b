pub mod TableLineFacts
