use Rattle.std.proofs.Common.{◌≡◌, drop}
use Rattle.account_db.specs.Parts.{fields_of}
use Rattle.account_db.proofs.replace.changed_line.Given as goal

abbrev pub invariant-loop : goal.invariant-loop
invariant-loop l = l.parts ≡ drop l.counter (fields_of l.line)
