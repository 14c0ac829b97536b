mod Rows
mod Longest
mod DelaySpreadFacts
