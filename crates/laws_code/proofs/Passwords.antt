-- The codes of pam_unix's authenticate, setcred and acct_mgmt.
use Rattle.std.proofs.Common.{inl, inr, ℕ, ◌-◌, ◌==◌, ◌||◌, nat_lt, Bool, true, false, List, length, Option, Some, None, Result, Ok, Err, codes, refl}
use Rattle.std.specs.Str.{bytes_eq}
use Rattle.pam_base.specs.Code.{all_codes}
use Rattle.pam_base.specs.declared.code.Code.{Code}
use Rattle.pam_base.specs.declared.code.Code.TheVariants as returns
use Rattle.pam_room.specs.Call.{PlainCall}
use Rattle.account_db.specs.declared.fault.DbFault.{DbFault}
use Rattle.account_db.specs.declared.passwd.Passwd.{Passwd}
use Rattle.account_db.specs.declared.shadow.Shadow.{Shadow}
use Rattle.account_db.specs.Passwd.{entry_of, passwds_of}
use Rattle.module_acts.specs.declared.content.Content.{Content}
use Rattle.module_acts.specs.declared.content.Content.TheVariants as content
use Rattle.module_acts.specs.Accounts.{account_limit}
use Rattle.module_acts.specs.Act.{Act, answers}
use Rattle.module_acts.specs.Arguments.{has_argument}
use Rattle.sha_crypt.specs.Hash.{crypted}
use Rattle.sha_crypt.specs.declared.setting.SettingFault.{SettingFault}
use Rattle.mod_unix.specs.declared.look.KnownPassword.{KnownPassword}
use Rattle.mod_unix.specs.declared.look.KnownPassword.TheVariants.{Unknown, Unavailable, Plain, Shadowed}
use Rattle.mod_unix.specs.Account.{account_by, checks_account}
use Rattle.mod_unix.specs.Aging.{aged, code_at_age, code_after_change, day_of, is_past, is_reached}
use Rattle.mod_unix.specs.Authenticate.{asks_password, authenticates, unless_open, first_pass_or_asks, delays, is_open, is_success}
use Rattle.mod_unix.specs.Authenticate.{judge_account, keeps_for_setcred, try_first, unless_success, verifies_token, with_first}
use Rattle.mod_unix.specs.Look.{after_passwd, shadow_if_x, field_among, field_in, field_or_missing, is_x, looks, shadow_in}
use Rattle.mod_unix.specs.Verify.{hash_compared, hash_verified, is_locked, verified}
use Rattle.laws_code.specs.Returns.{IsOneOf}
use Rattle.laws_code.proofs.ModuleCodeFacts.{Gives, answering, asking, asking_token, delaying, either, keeping, reading, seeing_clock, seeing_items}

-- ---- what is known of a password

module _ (P : Code → Type 0) (user : List ℕ) (act : KnownPassword → Act) (rest : (look : KnownPassword) → Gives P (act look)) where
  hash_at : (b : Bool) (hash : List ℕ) → Gives P (shadow_if_x b user hash act)
  hash_at true hash = reading P (codes "/etc/shadow") account_limit (λ c. act (shadow_in user c)) (λ c. rest (shadow_in user c))
  hash_at false hash = rest (Plain hash)

  entry_at : (e : Option Passwd) → Gives P (after_passwd user (field_or_missing e) act)
  entry_at None = rest Unknown
  entry_at (Some entry) = hash_at (is_x entry.password) entry.password

  entries_at : (r : Result (List Passwd) DbFault) → Gives P (after_passwd user (field_among user r) act)
  entries_at (Ok entries) = entry_at (entry_of user entries)
  entries_at (Err fault) = rest Unavailable

  content_at : (c : Content) → Gives P (after_passwd user (field_in user c) act)
  content_at content.Absent = rest Unavailable
  content_at content.Unreadable = rest Unavailable
  content_at (content.Holds text) = entries_at (passwds_of text)

  pub looking : Gives P (looks user act)
  unfolding looks
  looking = reading P (codes "/etc/passwd") account_limit (λ c. after_passwd user (field_in user c) act) content_at

-- ---- authenticate

module _ (P : Code → Type 0) (ends : P returns.Success) (denied : P returns.AuthErr) (unavailable : P returns.AuthinfoUnavail) where
  hash_so : (hash : List ℕ) (r : Result (List ℕ) SettingFault) → P (hash_compared hash r)
  hash_so hash (Ok made) = either P (bytes_eq made hash) _ _ ends denied
  hash_so hash (Err fault) = unavailable

  pub token_so : (hash token : List ℕ) → P (hash_verified hash token)
  unfolding hash_verified
  token_so hash token = either P (is_locked hash || nat_lt 512 (length token)) _ _ denied (hash_so hash (crypted hash token))

  module _ (unknown : P returns.UserUnknown) (silent : P returns.ConvErr) where
    verified_so : (look : KnownPassword) (token : List ℕ) → P (verified look token)
    verified_so Unknown token = unknown
    verified_so Unavailable token = unavailable
    verified_so (Plain hash) token = token_so hash token
    verified_so (Shadowed entry) token = token_so entry.hash token

    -- the type of what the continuation takes isn't shared, so it is named by calls that make it
    verified_end : (look : KnownPassword) (token : List ℕ) → Gives P (with_first look (Some token) keeps_for_setcred)
    unfolding keeps_for_setcred
    verified_end look token = keeping P _ _ (verified_so look token)

    no_token_end : (look : KnownPassword) → Gives P (with_first look None keeps_for_setcred)
    unfolding keeps_for_setcred
    no_token_end look = answering P returns.AuthErr denied

    open_end : (look : KnownPassword) → Gives P (unless_success true look keeps_for_setcred)
    unfolding keeps_for_setcred
    open_end look = keeping P _ returns.Success ends

    asked_so : (look : KnownPassword) → Gives P (asks_password look keeps_for_setcred)
    unfolding asks_password
    asked_so look = asking_token P false (codes "Password: ") (λ token. with_first look (Some token) keeps_for_setcred) silent (verified_end look)

    first_so : (look : KnownPassword) (t : Option (List ℕ)) → Gives P (with_first look t keeps_for_setcred)
    first_so look (Some token) = verified_end look token
    first_so look None = no_token_end look

    unless_so : (b : Bool) (look : KnownPassword) → Gives P (unless_success b look keeps_for_setcred)
    unless_so true look = open_end look
    unless_so false look = asked_so look

    try_so : (look : KnownPassword) (t : Option (List ℕ)) → Gives P (try_first look t keeps_for_setcred)
    try_so look (Some token) = unless_so (is_success (verified look token)) look
    try_so look None = asked_so look

    pass_so : (first try : Bool) (look : KnownPassword) → Gives P (first_pass_or_asks first try look keeps_for_setcred)
    pass_so true try look = seeing_items P (λ items. with_first look items.auth_tok keeps_for_setcred) (λ items. first_so look items.auth_tok)
    pass_so false true look = seeing_items P (λ items. try_first look items.auth_tok keeps_for_setcred) (λ items. try_so look items.auth_tok)
    pass_so false false look = asked_so look

    verifies_so : (call : PlainCall) (look : KnownPassword) → Gives P (verifies_token call look keeps_for_setcred)
    unfolding verifies_token
    verifies_so call look = pass_so (has_argument (codes "use_first_pass") call.args) (has_argument (codes "try_first_pass") call.args) look

    delayed : (b : Bool) (step : Act) → Gives P step → Gives P (delays b step)
    delayed true step rest = rest
    delayed false step rest = delaying P 2000000 step rest

    open_so : (b : Bool) (call : PlainCall) (look : KnownPassword) → Gives P (unless_open b call look keeps_for_setcred)
    open_so true call look = open_end look
    open_so false call look = delayed (has_argument (codes "nodelay") call.args) (verifies_token call look keeps_for_setcred) (verifies_so call look)

    judged : (call : PlainCall) (look : KnownPassword) → Gives P (judge_account call look keeps_for_setcred)
    unfolding judge_account
    judged call look = open_so (is_open call look) call look

    pub signed_in : (call : PlainCall) → Gives P (authenticates call keeps_for_setcred)
    unfolding authenticates
    signed_in call = asking P (λ user. looks user (λ look. judge_account call look keeps_for_setcred)) silent
        (λ user. looking P user (λ look. judge_account call look keeps_for_setcred) (judged call))

-- ---- acct_mgmt

module _ (P : Code → Type 0) (ends : P returns.Success) (expired : P returns.AcctExpired) (old : P returns.AuthtokExpired)
    (renew : P returns.NewAuthtokReqd) where
  age_so : (age : ℕ) (max inactive : Option ℕ) → P (code_at_age age max inactive)
  age_so age (Some max) inactive = either P (is_past age max inactive) _ _ old (either P (nat_lt max age) _ _ renew ends)
  age_so age None inactive = ends

  change_so : (today : ℕ) (last max inactive : Option ℕ) → P (code_after_change today last max inactive)
  change_so today (Some last) max inactive = either P (last == 0) _ _ renew (either P (nat_lt today last) _ _ ends (age_so (today - last) max inactive))
  change_so today None max inactive = ends

  aged_so : (today : ℕ) (entry : Shadow) → P (aged today entry)
  unfolding aged
  aged_so today entry = either P (is_reached entry.expire today) _ _ expired (change_so today entry.last_change entry.max entry.inactive)

  module _ (unknown : P returns.UserUnknown) (unavailable : P returns.AuthinfoUnavail) (silent : P returns.ConvErr) where
    account_so : (look : KnownPassword) → Gives P (account_by look answers)
    unfolding account_by
    account_so Unknown = answering P returns.UserUnknown unknown
    account_so Unavailable = answering P returns.AuthinfoUnavail unavailable
    account_so (Plain hash) = answering P returns.Success ends
    account_so (Shadowed entry) = seeing_clock P (λ clock. answers (aged (day_of clock.moment) entry))
        (λ clock. answering P _ (aged_so (day_of clock.moment) entry))

    pub account_checked : Gives P (checks_account answers)
    unfolding checks_account
    account_checked = asking P (λ user. looks user (λ look. account_by look answers)) silent
        (λ user. looking P user (λ look. account_by look answers) account_so)

-- ---- setcred

pub in_all : (code : Code) → IsOneOf code all_codes
in_all returns.Success = inl refl
in_all returns.OpenErr = inr (inl refl)
in_all returns.SymbolErr = inr (inr (inl refl))
in_all returns.ServiceErr = inr (inr (inr (inl refl)))
in_all returns.SystemErr = inr (inr (inr (inr (inl refl))))
in_all returns.BufErr = inr (inr (inr (inr (inr (inl refl)))))
in_all returns.PermDenied = inr (inr (inr (inr (inr (inr (inl refl))))))
in_all returns.AuthErr = inr (inr (inr (inr (inr (inr (inr (inl refl)))))))
in_all returns.CredInsufficient = inr (inr (inr (inr (inr (inr (inr (inr (inl refl))))))))
in_all returns.AuthinfoUnavail = inr (inr (inr (inr (inr (inr (inr (inr (inr (inl refl)))))))))
in_all returns.UserUnknown = inr (inr (inr (inr (inr (inr (inr (inr (inr (inr (inl refl))))))))))
in_all returns.MaxTries = inr (inr (inr (inr (inr (inr (inr (inr (inr (inr (inr (inl refl)))))))))))
in_all returns.NewAuthtokReqd = inr (inr (inr (inr (inr (inr (inr (inr (inr (inr (inr (inr (inl refl))))))))))))
in_all returns.AcctExpired = inr (inr (inr (inr (inr (inr (inr (inr (inr (inr (inr (inr (inr (inl refl)))))))))))))
in_all returns.SessionErr = inr (inr (inr (inr (inr (inr (inr (inr (inr (inr (inr (inr (inr (inr (inl refl))))))))))))))
in_all returns.CredUnavail = inr (inr (inr (inr (inr (inr (inr (inr (inr (inr (inr (inr (inr (inr (inr (inl refl)))))))))))))))
in_all returns.CredExpired = inr (inr (inr (inr (inr (inr (inr (inr (inr (inr (inr (inr (inr (inr (inr (inr (inl refl))))))))))))))))
in_all returns.CredErr = inr (inr (inr (inr (inr (inr (inr (inr (inr (inr (inr (inr (inr (inr (inr (inr (inr (inl refl)))))))))))))))))
in_all returns.NoModuleData = inr (inr (inr (inr (inr (inr (inr (inr (inr (inr (inr (inr (inr (inr (inr (inr (inr (inr (inl refl))))))))))))))))))
in_all returns.ConvErr = inr (inr (inr (inr (inr (inr (inr (inr (inr (inr (inr (inr (inr (inr (inr (inr (inr (inr (inr (inl refl)))))))))))))))))))
in_all returns.AuthtokErr = inr (inr (inr (inr (inr (inr (inr (inr (inr (inr (inr (inr (inr (inr (inr (inr (inr (inr (inr (inr (inl refl))))))))))))))))))))
in_all returns.AuthtokRecoveryErr = inr (inr (inr (inr (inr (inr (inr (inr
    (inr (inr (inr (inr (inr (inr (inr (inr (inr (inr (inr (inr (inr (inl refl)))))))))))))))))))))
in_all returns.AuthtokLockBusy = inr (inr (inr (inr (inr (inr (inr (inr
    (inr (inr (inr (inr (inr (inr (inr (inr (inr (inr (inr (inr (inr (inr (inl refl))))))))))))))))))))))
in_all returns.AuthtokDisableAging = inr (inr (inr (inr (inr (inr (inr (inr
    (inr (inr (inr (inr (inr (inr (inr (inr (inr (inr (inr (inr (inr (inr (inr (inl refl)))))))))))))))))))))))
in_all returns.TryAgain = inr (inr (inr (inr (inr (inr (inr (inr (inr (inr
    (inr (inr (inr (inr (inr (inr (inr (inr (inr (inr (inr (inr (inr (inr (inl refl))))))))))))))))))))))))
in_all returns.Ignore = inr (inr (inr (inr (inr (inr (inr (inr (inr (inr
    (inr (inr (inr (inr (inr (inr (inr (inr (inr (inr (inr (inr (inr (inr (inr (inl refl)))))))))))))))))))))))))
in_all returns.Abort = inr (inr (inr (inr (inr (inr (inr (inr (inr (inr
    (inr (inr (inr (inr (inr (inr (inr (inr (inr (inr (inr (inr (inr (inr (inr (inr (inl refl))))))))))))))))))))))))))
in_all returns.AuthtokExpired = inr (inr (inr (inr (inr (inr (inr (inr (inr
    (inr (inr (inr (inr (inr (inr (inr (inr (inr (inr (inr (inr (inr (inr (inr (inr (inr (inr (inl refl)))))))))))))))))))))))))))
in_all returns.ModuleUnknown = inr (inr (inr (inr (inr (inr (inr (inr (inr
    (inr (inr (inr (inr (inr (inr (inr (inr (inr (inr (inr (inr (inr (inr (inr (inr (inr (inr (inr (inl refl))))))))))))))))))))))))))))
in_all returns.BadItem = inr (inr (inr (inr (inr (inr (inr (inr (inr (inr
    (inr (inr (inr (inr (inr (inr (inr (inr (inr (inr (inr (inr (inr (inr (inr (inr (inr (inr (inr (inl refl)))))))))))))))))))))))))))))
in_all returns.ConvAgain = inr (inr (inr (inr (inr (inr (inr (inr (inr (inr
    (inr (inr (inr (inr (inr (inr (inr (inr (inr (inr (inr (inr (inr (inr (inr (inr (inr (inr (inr (inr (inl refl))))))))))))))))))))))))))))))
in_all returns.Incomplete = inr (inr (inr (inr (inr (inr (inr (inr (inr
    (inr (inr (inr (inr (inr (inr (inr (inr (inr (inr (inr (inr (inr (inr (inr (inr (inr (inr (inr (inr (inr (inr (inl refl)))))))))))))))))))))))))))))))
