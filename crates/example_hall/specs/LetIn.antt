-- When a visitor is let in (this project's own).
use Rattle.std.specs.Prelude.{◌≡◌, ℕ, List, Some, codes}
use Rattle.pam_base.specs.declared.call.AppCall.{AppCall}
use Rattle.pam_base.specs.declared.call.AppCall.TheVariants.{AcctMgmt, Authenticate, Start}
use Rattle.pam_base.specs.declared.call.Step.{Step}
use Rattle.pam_base.specs.declared.code.Code.TheVariants.{Success}
use Rattle.pam_library.specs.declared.outcome.Answer.TheVariants as answers
use Rattle.pam_library.specs.declared.outcome.Outcome.{Outcome}
use Rattle.pam_library.specs.Applied.{Answers}
use Rattle.pam_library.specs.Seen.{SessionSeen}
use Rattle.pam_library.specs.Slots.{slot_at}

-- every other transaction is as before
abbrev pub OthersStay : ℕ → SessionSeen → SessionSeen → Type 0
OthersStay number old new =
    (other : ℕ) → (other ≡ number → ⊥) → slot_at new.slots other ≡ slot_at old.slots other

-- A call returned SUCCESS, and what that says by the library's contract.
pub record Succeeds (step : Step) (old new : SessionSeen) : Type 0 where
  pub outcome : Outcome
  pub success : outcome.answer ≡ answers.Code Success
  pub answers : Answers step old new outcome

-- Three calls, one after the other, returned SUCCESS: a start of the service `door` for this user,
-- an authentication, and acct_mgmt. `Made` says of a call that it did, with the library and the
-- world before and after it.
pub record IsLetIn {L W : Type 0} (Made : AppCall → L → W → L → W → Type 0) (user : List ℕ)
    (old new : L) (before after : W) : Type 0 where
  -- the library and the world between the calls
  pub started : L
  pub at_first : W
  pub authenticated : L
  pub at_second : W
  pub start : Made (Start (codes "door") (Some user)) old before started at_first
  pub authenticate : Made (Authenticate 0) started at_first authenticated at_second
  pub acct_mgmt : Made (AcctMgmt 0) authenticated at_second new after
