use Rattle.std.proofs.Common.{◌≡◌, ◌∙◌, Some, None}
use Rattle.std.specs.List.{last_or}
use Rattle.mod_history.proofs.LastElementFacts.{last_get}
use Rattle.mod_history.proofs.renewal.is_last.Goals as goal

pub returns-in-Some : goal.returns-in-Some
returns-in-Some c =
    let last : Some c.in-Some.last.now ≡ last_or None c.args.hashes.now = c.in-Some.ensures.value ∙ last_get c.args.hashes.now in
    rw (← last) (rw c.bytes.ensures at c.eq.ensures)
