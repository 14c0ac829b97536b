pub mod Decimals
pub mod Digits
pub mod ValidStepFacts
pub mod TransactionNumberFacts
pub mod StepLineFacts
pub mod Rows
pub mod Words
