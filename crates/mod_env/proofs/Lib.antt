mod EnvironmentStepFacts
mod FoundSoFarFacts
mod SpelledVariableFacts
mod Spelled
mod SetVariableFacts
mod Rows
