-- The prompt for a user's name fits a message.
use Rattle.std.proofs.Common.{ℕ, ◌≤◌, List, Option, Some, None, length, arith, lit≤}
use Rattle.std.proofs.lemmas.List.{length-take}
use Rattle.pam_room.specs.Say.{login_prompt}

pub prompt_fits : (prompt : Option (List ℕ)) → length (login_prompt prompt) ≤ 512
prompt_fits (Some p) = simp length-take (omega arith)
prompt_fits None = lit≤ tt
