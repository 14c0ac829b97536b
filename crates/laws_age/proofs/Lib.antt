mod EntryAgeFacts
mod AcctMgmtFacts
