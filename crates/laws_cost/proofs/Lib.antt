mod DigestTextFacts
mod TextLengthFacts
mod RoundBoundFacts
mod Rows
