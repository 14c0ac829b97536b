-- The codes of pam_unix's chauthtok, and of pam_unix.
use Rattle.std.proofs.Common.{inl, inr, ℕ, ◌==◌, Bool, true, false, List, Option, Some, None, codes, refl}
use Rattle.pam_base.specs.declared.code.Code.{Code}
use Rattle.pam_base.specs.declared.code.Code.TheVariants as returns
use Rattle.pam_base.specs.declared.call.Func.{Func}
use Rattle.pam_base.specs.declared.call.Func.TheVariants.{Authenticate, SetCred, AcctMgmt, OpenSession, CloseSession, ChAuthTok}
use Rattle.pam_base.specs.declared.item.ItemName.TheVariants.{AuthTok}
use Rattle.pam_outside.specs.declared.held.LockKind.TheVariants.{Record}
use Rattle.pam_room.specs.Call.{PlainCall, has_flag, prelim_check}
use Rattle.account_db.specs.declared.shadow.Shadow.{Shadow}
use Rattle.module_acts.specs.Accounts.{account_limit}
use Rattle.module_acts.specs.Act.{Act, answers, lets_go}
use Rattle.module_acts.specs.Arguments.{has_argument}
use Rattle.mod_unix.specs.declared.look.KnownPassword.{KnownPassword}
use Rattle.mod_unix.specs.declared.look.KnownPassword.TheVariants.{Unknown, Unavailable, Plain, Shadowed}
use Rattle.mod_unix.specs.Aging.{day_of}
use Rattle.mod_unix.specs.Authenticate.{is_empty}
use Rattle.mod_unix.specs.Change.{asks_old, authtok_or_asks, unless_too_early, asks_old_unless_empty, unless_token_is_kept}
use Rattle.mod_unix.specs.Change.{checks_or_changes, unless_caller_is_root, replaces_shadow, stores_if_taken, change_by, changed_shadow}
use Rattle.mod_unix.specs.Change.{changes_entry, changes_locked, changes_shadow, changes_token, if_locked, is_kept, is_too_early}
use Rattle.mod_unix.specs.Change.{new_prompts, same_reply, sets_new, stores_token, takes_token, tries_change, usable, write_result}
use Rattle.mod_unix.specs.Look.{looks}
use Rattle.mod_unix.specs.NewHash.{hashed_token}
use Rattle.mod_unix.specs.Unix.{act_of_func, kept_code, unix_plays}
use Rattle.mod_unix.specs.Verify.{hash_verified}
use Rattle.laws_code.specs.Codes.{unix_account, unix_auth, unix_change, unix_codes}
use Rattle.laws_code.specs.Returns.{IsOneOf, ReturnsOf}
use Rattle.laws_code.proofs.ModuleCodeFacts.{Gives, answering, asking, asking_token, drawing, exchanging, holding, letting_go, reading, replacing}
use Rattle.laws_code.proofs.ModuleCodeFacts.{seeing_caller, seeing_clock, seeing_data, seeing_items, setting}
use Rattle.laws_code.proofs.Passwords.{account_checked, in_all, looking, signed_in, token_so}

-- ---- a new token

module _ (P : Code → Type 0) (silent : P returns.ConvErr) (act : Option (List ℕ) → Act) (rest : (t : Option (List ℕ)) → Gives P (act t)) where
  set_new : (t : Option (List ℕ)) → Gives P (sets_new t act)
  set_new (Some token) = setting P AuthTok token (act (Some token)) (rest (Some token))
  set_new None = rest None

  authtok : (b : Bool) → Gives P (authtok_or_asks b act)
  authtok true = seeing_items P (λ items. act (usable items.auth_tok)) (λ items. rest (usable items.auth_tok))
  authtok false = exchanging P new_prompts (λ replies. sets_new (same_reply replies) act) silent (λ replies. set_new (same_reply replies))

  pub taking_token : (call : PlainCall) → Gives P (takes_token call act)
  unfolding takes_token
  taking_token call = authtok (has_argument (codes "use_authtok") call.args)

-- ---- whatever holds for the code that a continuation is given, holds for the whole's

abbrev pub Passes : (Code → Type 0) → (Code → Act) → Type 0
Passes P act = (code : Code) → P code → Gives P (act code)

pub letting : (P : Code → Type 0) (b : Bool) (act : Code → Act) → Passes P act → Passes P (λ code. lets_go b (act code))
letting P b act rest code p = letting_go P b (act code) (rest code p)

pub wrote : (P : Code → Type 0) → P returns.Success → P returns.AuthtokErr → (done : Bool) → P (write_result done)
wrote P ends refused true = ends
wrote P ends refused false = refused

-- ---- chauthtok

module _ (P : Code → Type 0) (ends : P returns.Success) (refused : P returns.AuthtokErr) where
  text_so : (text : Option (List ℕ)) (act : Code → Act) → Passes P act → Gives P (replaces_shadow text act)
  text_so (Some text) act rest = replacing P (codes "/etc/shadow") text (λ done. act (write_result done)) (λ done. rest _ (wrote P ends refused done))
  text_so None act rest = rest returns.AuthtokErr refused

  locked_so : (user hash : List ℕ) (today : ℕ) (act : Code → Act) → Passes P act → Gives P (changes_locked user hash today act)
  unfolding changes_locked
  locked_so user hash today act rest = reading P (codes "/etc/shadow") account_limit (λ c. replaces_shadow (changed_shadow user hash today c) act)
      (λ c. text_so (changed_shadow user hash today c) act rest)

  if_locked_so : (user hash : List ℕ) (today : ℕ) (act : Code → Act) → Passes P act → (b : Bool) → Gives P (if_locked user hash today act b)
  if_locked_so user hash today act rest true = locked_so user hash today (λ code. lets_go true (act code)) (letting P true act rest)
  if_locked_so user hash today act rest false = rest returns.AuthtokErr refused

  shadow_so : (user hash : List ℕ) (today : ℕ) (act : Code → Act) → Passes P act → Gives P (changes_shadow user hash today act)
  unfolding changes_shadow
  shadow_so user hash today act rest = holding P (codes "/etc/.pwd.lock") Record (if_locked user hash today act) (if_locked_so user hash today act rest)

  token_by : (call : PlainCall) (user : List ℕ) (t : Option (List ℕ)) (act : Code → Act) → Passes P act → Gives P (stores_if_taken call user t act)
  token_by call user (Some token) act rest = seeing_clock P _ (λ clock. drawing P _
      (λ word. shadow_so user (hashed_token call.args word token) (day_of clock.moment) act rest))
  token_by call user None act rest = rest returns.AuthtokErr refused

  stored : (call : PlainCall) (user : List ℕ) (t : Option (List ℕ)) (act : Code → Act) → Passes P act → Gives P (stores_token call user t act)
  unfolding stores_token
  stored call user t act rest = token_by call user t act rest

  module _ (denied : P returns.AuthErr) (unavailable : P returns.AuthinfoUnavail) (silent : P returns.ConvErr) where
    old_so : (entry : Shadow) (act : Code → Act) → Passes P act → Gives P (asks_old entry act)
    unfolding asks_old
    old_so entry act rest = asking_token P true (codes "Password: ") (λ token. act (hash_verified entry.hash token)) silent
        (λ token. rest _ (token_so P ends denied unavailable entry.hash token))

    empty_so : (b : Bool) (entry : Shadow) (act : Code → Act) → Passes P act → Gives P (asks_old_unless_empty b entry act)
    empty_so true entry act rest = rest returns.Success ends
    empty_so false entry act rest = old_so entry act rest

    early_so : (b : Bool) (entry : Shadow) (act : Code → Act) → Passes P act → Gives P (unless_too_early b entry act)
    early_so true entry act rest = rest returns.AuthtokErr refused
    early_so false entry act rest = empty_so (is_empty entry.hash) entry act rest

    root_so : (b : Bool) (today : ℕ) (entry : Shadow) (act : Code → Act) → Passes P act → Gives P (unless_caller_is_root b today entry act)
    root_so true today entry act rest = rest returns.Success ends
    root_so false today entry act rest = early_so (is_too_early today entry.last_change entry.min) entry act rest

    tried : (today : ℕ) (entry : Shadow) (act : Code → Act) → Passes P act → Gives P (tries_change today entry act)
    unfolding tries_change
    tried today entry act rest = seeing_caller P (λ caller. unless_caller_is_root (caller == 0) today entry act)
        (λ caller. root_so (caller == 0) today entry act rest)

    pass_so : (b : Bool) (call : PlainCall) (user : List ℕ) (today : ℕ) (entry : Shadow) (act : Code → Act) → Passes P act
        → Gives P (checks_or_changes b call user today entry act)
    pass_so true call user today entry act rest = tried today entry act rest
    pass_so false call user today entry act rest = taking_token P silent (λ t. stores_token call user t act) (λ t. stored call user t act rest) call

    kept_so : (b : Bool) (call : PlainCall) (user : List ℕ) (today : ℕ) (entry : Shadow) (act : Code → Act) → Passes P act
        → Gives P (unless_token_is_kept b call user today entry act)
    kept_so true call user today entry act rest = rest returns.Success ends
    kept_so false call user today entry act rest = pass_so (has_flag call.flags prelim_check) call user today entry act rest

    entry_so : (call : PlainCall) (user : List ℕ) (entry : Shadow) (act : Code → Act) → Passes P act → Gives P (changes_entry call user entry act)
    unfolding changes_entry
    entry_so call user entry act rest = seeing_clock P (λ clock. unless_token_is_kept (is_kept call (day_of clock.moment) entry) call user (day_of clock.moment)
        entry act) (λ clock. kept_so (is_kept call (day_of clock.moment) entry) call user (day_of clock.moment) entry act rest)

    changed_by : (call : PlainCall) (user : List ℕ) (act : Code → Act) → P returns.UserUnknown → Passes P act → (look : KnownPassword)
        → Gives P (change_by call user look act)
    unfolding change_by
    changed_by call user act unknown rest Unknown = rest returns.UserUnknown unknown
    changed_by call user act unknown rest Unavailable = rest returns.AuthinfoUnavail unavailable
    changed_by call user act unknown rest (Plain hash) = rest returns.AuthtokErr refused
    changed_by call user act unknown rest (Shadowed entry) = entry_so call user entry act rest

    changed : (call : PlainCall) (act : Code → Act) → P returns.UserUnknown → Passes P act → Gives P (changes_token call act)
    unfolding changes_token
    changed call act unknown rest = asking P (λ user. looks user (λ look. change_by call user look act)) silent
        (λ user. looking P user (λ look. change_by call user look act) (changed_by call user act unknown rest))

-- ---- pam_unix

by_function : (f : Func) (call : PlainCall) → Gives (λ c. IsOneOf c (unix_codes f)) (act_of_func f call)
by_function Authenticate call = signed_in (λ c. IsOneOf c unix_auth) (inl refl) (inr (inl refl)) (inr (inr (inl refl))) (inr (inr (inr (inr (inl refl)))))
    (inr (inr (inr (inl refl)))) call
by_function SetCred call = seeing_data (λ c. IsOneOf c (unix_codes SetCred)) (λ held. answers (kept_code held))
    (λ held. answering (λ c. IsOneOf c (unix_codes SetCred)) _ (in_all (kept_code held)))
by_function AcctMgmt call = account_checked (λ c. IsOneOf c unix_account) (inl refl) (inr (inl refl)) (inr (inr (inl refl))) (inr (inr (inr (inl refl))))
    (inr (inr (inr (inr (inr (inr (inl refl))))))) (inr (inr (inr (inr (inl refl))))) (inr (inr (inr (inr (inr (inl refl))))))
by_function OpenSession call = answering (λ c. IsOneOf c (unix_codes OpenSession)) returns.Success (inl refl)
by_function CloseSession call = answering (λ c. IsOneOf c (unix_codes CloseSession)) returns.Success (inl refl)
by_function ChAuthTok call =
    let P : Code → Type 0 = λ c. IsOneOf c unix_change in
    changed P (inl refl) (inr (inr (inl refl))) (inr (inl refl)) (inr (inr (inr (inl refl)))) (inr (inr (inr (inr (inl refl))))) call answers
    (inr (inr (inr (inr (inr (inl refl)))))) (answering P)

pub passwords : ReturnsOf unix_plays unix_codes
passwords call room held sight = by_function call.func call _
