use Rattle.laws_audit.proofs.LibraryCallFacts.{library_calls_go}
use Rattle.laws_audit.proofs.laws.library_calls_go.Goals as goal

pub returns : goal.returns
returns c = library_calls_go
