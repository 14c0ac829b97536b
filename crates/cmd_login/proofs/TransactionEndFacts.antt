-- The end of the first transaction, and that no transaction is open.
use Rattle.std.proofs.Common.{◌≡◌, ℕ, zero, suc, Bool, false, List, [], ◌∷◌, Result, refl, ap, ◌∙◌, arith}
use Rattle.pam_base.specs.declared.code.Code.{Code}
use Rattle.pam_base.specs.declared.call.AppCall.TheVariants as calls
use Rattle.pam_base.specs.Code.{number_of}
use Rattle.pam_outside.specs.Streams.{SinkState}
use Rattle.cmd_run.specs.pam_room.specs.Module.{Player}
use Rattle.cmd_run.specs.pam_room.specs.State.{PlainWorld}
use Rattle.cmd_run.specs.pam_library.specs.Slots.{NoneIsOpen, PlainSlot, closed, is_open, is_open_at, opened, slot_at}
use Rattle.cmd_run.specs.pam_library.specs.Step.{stepped}
use Rattle.cmd_run.specs.State.{RunState, setting_of, state_of}
use Rattle.record_reader.specs.declared.ending.Stop.{Stop}
use Rattle.cmd_login.specs.declared.attempt.Verdict.{Verdict}
use Rattle.cmd_login.specs.Ends.{closing_code}
use Rattle.cmd_login.specs.Login.{KnownCalls, Part, end_call}
use Rattle.cmd_login.specs.Reported.{LogsIn, Writes}
use Rattle.cmd_login.specs.Told.{state_made}

-- ---- no transaction is open

none_at : (slots : List PlainSlot) → NoneIsOpen slots → (number : ℕ) → is_open_at (slot_at slots number) ≡ false
none_at slots none zero = refl
none_at [] none (suc i) = refl
none_at (slot ∷ slots) none (suc zero) = none.0
none_at (slot ∷ slots) none (suc (suc i)) = none_at slots none.1 (suc i)

shifted : (slot : PlainSlot) (slots : List PlainSlot) → ((number : ℕ) → is_open_at (slot_at (slot ∷ slots) number) ≡ false) → (number : ℕ)
    → is_open_at (slot_at slots number) ≡ false
shifted slot slots each zero = refl
shifted slot slots each (suc i) = each (suc (suc i))

none_open : (slots : List PlainSlot) → ((number : ℕ) → is_open_at (slot_at slots number) ≡ false) → NoneIsOpen slots
none_open [] each = tt
none_open (slot ∷ slots) each = (each 1, none_open slots (shifted slot slots each))

-- if none was open and no other one has changed, none is open once the first is closed
module _ (slots next : List PlainSlot) (none : NoneIsOpen slots) (others : (number : ℕ) → (number ≡ 1 → ⊥) → slot_at next number ≡ slot_at slots number)
    (first : is_open_at (slot_at next 1) ≡ false) where
  none_still : (number : ℕ) → is_open_at (slot_at next number) ≡ false
  none_still zero = refl
  none_still (suc zero) = first
  none_still (suc (suc i)) = ap is_open_at (others (suc (suc i)) (λ e. absurd (omega (arith, e)))) ∙ none_at slots none (suc (suc i))

  pub none_left : NoneIsOpen next
  none_left = none_open next none_still

-- ---- the end of the first one

module _ (players : List Player) (number : Code → ℕ → ℕ) (status : ℕ) where
  pub closed_by_end : (slots : List PlainSlot) (w : PlainWorld)
      → is_open_at (slot_at (stepped players number slots w (record { number = 1; call = calls.End status })).slots 1) ≡ false
  unfolding stepped
  closed_by_end [] w = refl
  closed_by_end (closed conv ∷ slots) w = refl
  closed_by_end (opened h ∷ slots) w = refl

pub closed_if_ended : (players : List Player) (delay : Code → ℕ → ℕ) (code : Code) (slots : List PlainSlot) (w : PlainWorld) (t : RunState)
    → t ≡ state_made (setting_of players delay) (end_call code) (state_of slots w) → is_open_at (slot_at t.slots 1) ≡ false
closed_if_ended players delay code slots w t e = ap (λ (x : RunState). is_open_at (slot_at x.slots 1)) e
    ∙ closed_by_end players delay (number_of code) slots w

-- ---- the whole login: what was tried, and the end after it

pub login_ends : (Does : Part Verdict) (known : KnownCalls) (result : Result Verdict Stop) (players others : List Player) (s m t : RunState)
    (p q : SinkState)
    → Writes Does known result s m p q → others ≡ players → (code : Code) → code ≡ closing_code result
    → ((delay : Code → ℕ → ℕ) → t ≡ state_made (setting_of others delay) (end_call code) m) → LogsIn Does known players result s t p q
login_ends Does known result players others s m t p q writes same code code_is ended = record {
  last = m;
  writes = writes;
  ended = λ delay. ended delay ∙ ap (λ (ps : List Player). state_made (setting_of ps delay) (end_call code) m) same
      ∙ ap (λ (c : Code). state_made (setting_of players delay) (end_call c) m) code_is;
}
