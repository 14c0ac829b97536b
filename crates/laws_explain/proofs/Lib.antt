mod LineRowFacts
mod RowStateFacts
mod CallTextFacts
mod Rows
