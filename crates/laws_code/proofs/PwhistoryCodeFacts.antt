-- The codes of pam_pwhistory.
use Rattle.std.proofs.Common.{inl, inr, ℕ, ◌==◌, nat_le, Bool, true, false, List, [], ◌∷◌, length, Option, Some, None, codes, refl, cond}
use Rattle.pam_base.specs.declared.code.Code.{Code}
use Rattle.pam_base.specs.declared.code.Code.TheVariants as returns
use Rattle.pam_base.specs.declared.call.Func.{Func}
use Rattle.pam_base.specs.declared.call.Func.TheVariants.{Authenticate, SetCred, AcctMgmt, OpenSession, CloseSession, ChAuthTok}
use Rattle.pam_base.specs.declared.item.ItemName.{ItemName}
use Rattle.pam_base.specs.declared.item.ItemName.TheVariants.{AuthTok}
use Rattle.pam_base.specs.declared.style.Style.TheVariants.{ErrorMsg}
use Rattle.pam_outside.specs.declared.held.LockKind.TheVariants.{Record}
use Rattle.pam_room.specs.Call.{PlainCall, has_flag, prelim_check}
use Rattle.module_acts.specs.Act.{Act, answers, lets_go, unless_answered}
use Rattle.mod_unix.specs.declared.look.KnownPassword.{KnownPassword}
use Rattle.mod_unix.specs.declared.look.KnownPassword.TheVariants.{Unknown, Unavailable, Plain, Shadowed}
use Rattle.mod_unix.specs.Change.{write_result}
use Rattle.mod_unix.specs.Look.{looks}
use Rattle.mod_history.specs.declared.history.Remembered.{Remembered}
use Rattle.mod_history.specs.History.{history_text}
use Rattle.mod_history.specs.Renewal.{hashes_of, renewed}
use Rattle.mod_history.specs.Pwhistory.{at_once, stores_if_fits, unless_remember_zero, remembers_if_taken, stores_unless_used, checks_token}
use Rattle.mod_history.specs.Pwhistory.{compares_token, history_in, history_limit, history_name, if_locked, is_refused, locks_history}
use Rattle.mod_history.specs.Pwhistory.{pwhistory_plays, refuses_token, remember_in_history, remember_locked, remember_of, remembers}
use Rattle.mod_history.specs.Pwhistory.{renew_if_known, renews, stores_text, unless_refused, unless_used, unsets_item}
use Rattle.laws_code.specs.Codes.{pwhistory_change, pwhistory_codes}
use Rattle.laws_code.specs.Returns.{IsOneOf, ReturnsOf}
use Rattle.laws_code.proofs.ModuleCodeFacts.{Gives, answering, asking, holding, letting_go, reading, replacing, seeing_caller, showing}
use Rattle.laws_code.proofs.UnixCodeFacts.{Passes, taking_token, wrote}
use Rattle.laws_code.proofs.Passwords.{looking}

module _ (P : Code → Type 0) where
  unsetting : (item : ItemName) (act : Act) → Gives P act → Gives P (unsets_item item act)
  unfolding unsets_item
  unsetting item act rest stage = rest _

module _ (P : Code → Type 0) (ends : P returns.Success) (refused : P returns.AuthtokErr) where
  token_refused : (act : Code → Act) → Passes P act → Gives P (refuses_token act)
  unfolding refuses_token
  token_refused act rest = unsetting P AuthTok _ (showing P ErrorMsg (codes "Password has been already used.") (act returns.AuthtokErr)
      (rest returns.AuthtokErr refused))

  length_so : (b : Bool) (text : List ℕ) (act : Code → Act) → Passes P act → Gives P (stores_if_fits b text act)
  length_so true text act rest = replacing P history_name text (λ done. act (write_result done)) (λ done. rest _ (wrote P ends refused done))
  length_so false text act rest = rest returns.AuthtokErr refused

  stored : (text : List ℕ) (act : Code → Act) → Passes P act → Gives P (stores_text text act)
  unfolding stores_text
  stored text act rest = length_so (nat_le (length text) history_limit) text act rest

  module _ (call : PlainCall) (remember : ℕ) (user hash token : List ℕ) where
    -- under the lock
    module _ (act : Option Code → Act) (used : Gives P (act None)) (rest : Passes P (λ code. act (Some code))) where
      use_so : (b : Bool) (history : List Remembered) → Gives P (stores_unless_used b remember user hash history act)
      use_so true history = used
      use_so false history = stored (history_text (renewed remember user hash history)) (λ code. act (Some code)) rest

      in_history : (history : Option (List Remembered)) → Gives P (remember_in_history call remember user hash token history act)
      in_history None = rest returns.AuthtokErr refused
      in_history (Some history) = seeing_caller P (λ caller. stores_unless_used (is_refused call.args caller token hash (hashes_of user history)) remember user
          hash history act)
          (λ caller. use_so (is_refused call.args caller token hash (hashes_of user history)) history)

      locked_so : Gives P (remember_locked call remember user hash token act)
      unfolding remember_locked
      locked_so = reading P history_name history_limit (λ c. remember_in_history call remember user hash token (history_in c) act)
          (λ c. in_history (history_in c))

    module _ (act : Code → Act) (rest : Passes P act) where
      if_locked_so : (b : Bool) → Gives P (if_locked call remember user hash token act b)
      if_locked_so true = locked_so (λ done. lets_go true (unless_refused act done)) (letting_go P true (refuses_token act) (token_refused act rest))
          (λ code p. letting_go P true (act code) (rest code p))
      if_locked_so false = unsetting P AuthTok (act returns.AuthtokErr) (rest returns.AuthtokErr refused)

      history_so : Gives P (locks_history call remember user hash token act)
      unfolding locks_history
      history_so = holding P (codes "/etc/.pwd.lock") Record (if_locked call remember user hash token act) if_locked_so

      unused : (b : Bool) → Gives P (unless_used b call remember user hash token act)
      unused true = token_refused act rest
      unused false = history_so

      compared : (history : Option (List Remembered)) → Gives P (compares_token call remember user hash token history act)
      compared None = rest returns.AuthtokErr refused
      compared (Some history) = seeing_caller P (λ caller. unless_used (is_refused call.args caller token hash (hashes_of user history)) call remember user
          hash token act)
          (λ caller. unused (is_refused call.args caller token hash (hashes_of user history)))

      remembered : (b : Bool) → Gives P (unless_remember_zero b call remember user hash token act)
      remembered true = rest returns.Success ends
      remembered false = reading P history_name history_limit (λ c. compares_token call remember user hash token (history_in c) act)
          (λ c. compared (history_in c))

  module _ (call : PlainCall) (act : Code → Act) (rest : Passes P act) (user : List ℕ) where
    token_so : (hash : List ℕ) (t : Option (List ℕ)) → Gives P (remembers_if_taken call user hash t act)
    token_so hash None = rest returns.AuthtokErr refused
    token_so hash (Some token) = remembered call (remember_of call.args) user hash token act rest (remember_of call.args == 0)

    kept : (hash : List ℕ) (t : Option (List ℕ)) → Gives P (remembers call user hash t act)
    unfolding remembers
    kept hash t = token_so hash t

    module _ (unknown : P returns.UserUnknown) (silent : P returns.ConvErr) where
      renews_so : (hash : List ℕ) → Gives P (renews call user hash act)
      unfolding renews
      renews_so hash = taking_token P silent (λ t. remembers call user hash t act) (kept hash) call

      known_so : (look : KnownPassword) → Gives P (renew_if_known call user look act)
      unfolding renew_if_known
      known_so Unknown = rest returns.UserUnknown unknown
      known_so Unavailable = rest returns.AuthtokErr refused
      known_so (Plain hash) = renews_so hash
      known_so (Shadowed entry) = renews_so entry.hash

  checked : (call : PlainCall) (act : Code → Act) → Passes P act → P returns.UserUnknown → P returns.ConvErr → Gives P (checks_token call act)
  unfolding checks_token
  checked call act rest unknown silent = asking P (λ user. looks user (λ look. renew_if_known call user look act)) silent
      (λ user. looking P user (λ look. renew_if_known call user look act) (known_so call act rest user unknown silent))

-- ---- by function

first_pass : (b : Bool) (act : Act) → Gives (λ c. IsOneOf c pwhistory_change) act
    → Gives (λ c. IsOneOf c pwhistory_change) (unless_answered (cond b (Some returns.Success) None) act)
first_pass true act rest = answering (λ c. IsOneOf c pwhistory_change) returns.Success (inl refl)
first_pass false act rest = rest

missing_so : Gives (λ c. IsOneOf c (returns.ModuleUnknown ∷ [])) (answers returns.ModuleUnknown)
missing_so = answering (λ c. IsOneOf c (returns.ModuleUnknown ∷ [])) returns.ModuleUnknown (inl refl)

by_function : (f : Func) (flags : ℕ) (act : Act) → Gives (λ c. IsOneOf c pwhistory_change) act
    → Gives (λ c. IsOneOf c (pwhistory_codes f)) (unless_answered (at_once f flags) act)
by_function Authenticate flags act rest = missing_so
by_function SetCred flags act rest = missing_so
by_function AcctMgmt flags act rest = missing_so
by_function OpenSession flags act rest = missing_so
by_function CloseSession flags act rest = missing_so
by_function ChAuthTok flags act rest = first_pass (has_flag flags prelim_check) act rest

pub histories : ReturnsOf pwhistory_plays pwhistory_codes
histories call room held sight =
    let P : Code → Type 0 = λ c. IsOneOf c pwhistory_change in
    by_function call.func call.flags (checks_token call answers) (checked P (inl refl) (inr (inl refl)) call answers (answering P) (inr (inr (inr (inl refl))))
    (inr (inr (inl refl)))) _
