-- The codes of the modules that only check the user.
use Rattle.std.proofs.Common.{◌≡◌, inl, inr, ℕ, Bool, true, false, ◌==◌, List, [], ◌∷◌, Option, Some, None, codes, refl, cond}
use Rattle.pam_base.specs.declared.code.Code.{Code}
use Rattle.pam_base.specs.declared.code.Code.TheVariants as returns
use Rattle.pam_base.specs.declared.call.Func.{Func}
use Rattle.pam_base.specs.declared.call.Func.TheVariants.{Authenticate, SetCred, AcctMgmt, OpenSession, CloseSession, ChAuthTok}
use Rattle.pam_room.specs.Call.{value_among}
use Rattle.account_db.specs.declared.passwd.Passwd.{Passwd}
use Rattle.account_db.specs.declared.group.Group.{Group}
use Rattle.account_db.specs.Members.{is_member}
use Rattle.account_db.specs.Passwd.{entry_of, entry_of_uid}
use Rattle.module_acts.specs.declared.content.Content.{Content}
use Rattle.module_acts.specs.declared.content.Content.TheVariants as content
use Rattle.module_acts.specs.Accounts.{Account, found, missing, unreadable}
use Rattle.module_acts.specs.Act.{Act, answers, unless_answered}
use Rattle.module_acts.specs.Arguments.{has_argument}
use Rattle.module_acts.specs.Steps.{sees_caller}
use Rattle.module_acts.specs.Uncheck.{code_unchecked}
use Rattle.mod_lists.specs.Nologin as nologin
use Rattle.mod_lists.specs.Shells as shells
use Rattle.mod_history.specs.Securetty as securetty
use Rattle.mod_history.specs.Wheel as wheel
use Rattle.laws_code.specs.Codes.{check_codes, nologin_check, nologin_codes, securetty_check, securetty_codes, shells_check, shells_codes}
use Rattle.laws_code.specs.Codes.{wheel_check, wheel_codes}
use Rattle.laws_code.specs.Returns.{IsOneOf, ReturnsOf}
use Rattle.laws_code.specs.Succeeds.{NologinSucceedsIfTold, WheelSucceedsIfTrusting}
use Rattle.laws_code.proofs.ModuleCodeFacts.{Gives, IfSome, answering, asking, either, finding, reading, reading_groups, reading_passwds}
use Rattle.laws_code.proofs.ModuleCodeFacts.{reading_shells, seeing_caller, seeing_items, showing, unless}

-- by function, for codes that may differ between them
checked : (f : Func) (code : Code) (act : Act) (check setcred : List Code) → IsOneOf code setcred → Gives (λ c. IsOneOf c check) act
    → Gives (λ c. IsOneOf c (check_codes check setcred f)) (unless_answered (code_unchecked f code) act)
checked Authenticate code act check setcred at rest = rest
checked AcctMgmt code act check setcred at rest = rest
checked SetCred code act check setcred at rest = answering (λ c. IsOneOf c setcred) code at
checked OpenSession code act check setcred at rest = answering (λ c. IsOneOf c (returns.ModuleUnknown ∷ [])) returns.ModuleUnknown (inl refl)
checked CloseSession code act check setcred at rest = answering (λ c. IsOneOf c (returns.ModuleUnknown ∷ [])) returns.ModuleUnknown (inl refl)
checked ChAuthTok code act check setcred at rest = answering (λ c. IsOneOf c (returns.ModuleUnknown ∷ [])) returns.ModuleUnknown (inl refl)

-- ---- pam_nologin

module _ (P : Code → Type 0) (plain : Code) (ends : P plain) (denied : P returns.AuthErr) (failed : P returns.ServiceErr) (unknown : P returns.UserUnknown)
    (silent : P returns.ConvErr) where
  root_or_not : (b : Bool) (notice : List ℕ) → Gives P (nologin.admits_root_only b plain notice)
  root_or_not true notice = showing P _ notice (answers plain) (answering P plain ends)
  root_or_not false notice = showing P _ notice (answers returns.AuthErr) (answering P returns.AuthErr denied)

  by_entry : (notice : List ℕ) (a : Account) → Gives P (nologin.notice_for_account plain notice a)
  by_entry notice unreadable = answering P returns.ServiceErr failed
  by_entry notice missing = showing P _ notice (answers returns.UserUnknown) (answering P returns.UserUnknown unknown)
  by_entry notice (found entry) = root_or_not (entry.uid == 0) notice

  noticed : (user : List ℕ) (c : Content) → Gives P (nologin.after_notice plain user c)
  noticed user content.Absent = answering P plain ends
  noticed user content.Unreadable = answering P returns.ServiceErr failed
  noticed user (content.Holds notice) = finding P user (nologin.notice_for_account plain notice) (by_entry notice)

  in_etc : (act : Content → Act) → ((c : Content) → Gives P (act c)) → (c : Content) → Gives P (nologin.or_etc act c)
  in_etc act rest content.Absent = reading P _ _ act rest
  in_etc act rest content.Unreadable = rest content.Unreadable
  in_etc act rest (content.Holds notice) = rest (content.Holds notice)

  read_notice : (name : Option (List ℕ)) (act : Content → Act) → ((c : Content) → Gives P (act c)) → Gives P (nologin.reads_notice name act)
  read_notice (Some name) act rest = reading P name _ act rest
  read_notice None act rest = reading P _ _ (nologin.or_etc act) (in_etc act rest)

notice_checked : (P : Code → Type 0) (args : List (List ℕ)) → P (nologin.plain_answer args) → P returns.AuthErr → P returns.ServiceErr
    → P returns.UserUnknown → P returns.ConvErr → Gives P (nologin.checks_notice args)
notice_checked P args ends denied failed unknown silent =
    asking P _ silent (λ user. read_notice P (nologin.plain_answer args) ends denied failed unknown silent (value_among (codes "file=") args) _
    (noticed P (nologin.plain_answer args) ends denied failed unknown silent user))

plain_in : (b : Bool) (rest : List Code) → IsOneOf (cond b returns.Success returns.Ignore) (returns.Success ∷ returns.Ignore ∷ rest)
plain_in true rest = inl refl
plain_in false rest = inr (inl refl)

pub nologins : ReturnsOf nologin.nologin_plays nologin_codes
nologins call room held sight =
    let told = has_argument (codes "successok") call.args in
    checked call.func (nologin.plain_answer call.args) (nologin.checks_notice call.args) nologin_check (returns.Success ∷ returns.Ignore ∷ [])
    (plain_in told [])
    (notice_checked (λ c. IsOneOf c nologin_check) call.args (plain_in told (returns.AuthErr ∷ returns.ConvErr ∷ returns.ServiceErr ∷ returns.UserUnknown ∷ []))
    (inr (inr (inl refl))) (inr (inr (inr (inr (inl refl))))) (inr (inr (inr (inr (inr (inl refl)))))) (inr (inr (inr (inl refl))))) _

plainly : (b : Bool) → cond b returns.Success returns.Ignore ≡ returns.Success → b ≡ true
plainly true e = refl
plainly false e = absurd cc

told_by : (f : Func) (P : Code → Type 0) (code : Code) (act : Act) → (f ≡ SetCred → P code) → P returns.ModuleUnknown → Gives P act
    → Gives P (unless_answered (code_unchecked f code) act)
told_by Authenticate P code act at none rest = rest
told_by AcctMgmt P code act at none rest = rest
told_by SetCred P code act at none rest = answering P code (at refl)
told_by OpenSession P code act at none rest = answering P returns.ModuleUnknown none
told_by CloseSession P code act at none rest = answering P returns.ModuleUnknown none
told_by ChAuthTok P code act at none rest = answering P returns.ModuleUnknown none

pub told : NologinSucceedsIfTold
told call room held sight =
    let P : Code → Type 0 = λ c. c ≡ returns.Success → has_argument (codes "successok") call.args ≡ true in
    let at = plainly (has_argument (codes "successok") call.args) in
    told_by call.func P (nologin.plain_answer call.args) (nologin.checks_notice call.args) (λ f. at) (λ e. absurd cc)
    (notice_checked P call.args at (λ e. absurd cc) (λ e. absurd cc) (λ e. absurd cc) (λ e. absurd cc)) _

-- ---- pam_shells

module _ (P : Code → Type 0) (ends : P returns.Success) (denied : P returns.AuthErr) (silent : P returns.ConvErr) where
  by_list : (shell : List ℕ) (s : Option (List (List ℕ))) → P (shells.list_code shell s)
  by_list shell (Some s) = either P (shells.is_listed shell s) _ _ ends denied
  by_list shell None = denied

  by_shell : (a : Account) → Gives P (shells.checks_login_shell a)
  by_shell unreadable = answering P returns.AuthErr denied
  by_shell missing = answering P returns.AuthErr denied
  by_shell (found entry) = reading_shells P _ (λ s. answering P _ (by_list (shells.login_shell entry.shell) s))

  shell_checked : Gives P shells.checks_shell
  shell_checked = asking P _ silent (λ user. finding P user shells.checks_login_shell by_shell)

pub shells_so : ReturnsOf shells.shells_plays shells_codes
shells_so call room held sight =
    checked call.func returns.Success shells.checks_shell shells_check (returns.Success ∷ []) (inl refl)
    (shell_checked (λ c. IsOneOf c shells_check) (inl refl) (inr (inl refl)) (inr (inr (inl refl)))) _

-- ---- pam_securetty

module _ (P : Code → Type 0) (ends : P returns.Success) (denied : P returns.AuthErr) (failed : P returns.ServiceErr) (unknown : P returns.UserUnknown)
    (silent : P returns.ConvErr) where
  by_lines : (name : List ℕ) (c : Content) → P (securetty.terminal_code name c)
  by_lines name content.Absent = ends
  by_lines name content.Unreadable = failed
  by_lines name (content.Holds text) = either P (securetty.is_secure name text) _ _ ends denied

  by_tty : (tty : Option (List ℕ)) → Gives P (securetty.looks_up_terminal tty)
  by_tty None = answering P returns.ServiceErr failed
  by_tty (Some tty) = reading P _ _ _ (λ c. answering P _ (by_lines (securetty.terminal_name tty) c))

  root_at : (b : Bool) → Gives P (securetty.checks_if_root b)
  root_at true = seeing_items P _ (λ items. by_tty items.tty)
  root_at false = answering P returns.Success ends

  at_terminal : (a : Account) → Gives P (securetty.terminal_for_account a)
  at_terminal unreadable = answering P returns.ServiceErr failed
  at_terminal missing = answering P returns.UserUnknown unknown
  at_terminal (found entry) = root_at (entry.uid == 0)

  terminal_checked : Gives P securetty.checks_terminal
  terminal_checked = asking P _ silent (λ user. finding P user securetty.terminal_for_account at_terminal)

pub terminals : ReturnsOf securetty.securetty_plays securetty_codes
terminals call room held sight =
    checked call.func returns.Success securetty.checks_terminal securetty_check (returns.Success ∷ []) (inl refl)
    (terminal_checked (λ c. IsOneOf c securetty_check) (inl refl) (inr (inl refl)) (inr (inr (inr (inl refl)))) (inr (inr (inr (inr (inl refl)))))
    (inr (inr (inl refl)))) _

-- ---- pam_wheel

module _ (P : Code → Type 0) (args : List (List ℕ)) (trust : P (wheel.trusted (has_argument (codes "trust") args))) (passed : P returns.Ignore)
    (denied : P returns.PermDenied) (failed : P returns.ServiceErr) (unknown : P returns.UserUnknown) (silent : P returns.ConvErr) where
  member_of : (deny member : Bool) → P (wheel.member_code deny (has_argument (codes "trust") args) member)
  member_of true true = denied
  member_of true false = trust
  member_of false true = trust
  member_of false false = denied

  group_of : (deny : Bool) (entry : Passwd) (g : Option Group) → P (wheel.group_code deny (has_argument (codes "trust") args) entry g)
  group_of deny entry None = either P deny _ _ passed denied
  group_of deny entry (Some group) = member_of deny (is_member entry.name (Some entry) group)

  entry_in : (groups : List Group) (e : Option Passwd) → P (wheel.code_of_entry args groups e)
  entry_in groups None = unknown
  entry_in groups (Some entry) = group_of (has_argument (codes "deny") args) entry (wheel.wheel_group (value_among (codes "group=") args) groups)

  passwds_in : (caller : ℕ) (groups : List Group) (es : Option (List Passwd)) → P (wheel.code_of_caller args caller groups es)
  passwds_in caller groups None = failed
  passwds_in caller groups (Some es) = entry_in groups (entry_of_uid caller es)

  groups_in : (caller : ℕ) (es : Option (List Passwd)) (gs : Option (List Group)) → P (wheel.code_by_groups args caller es gs)
  groups_in caller es None = failed
  groups_in caller es (Some gs) = passwds_in caller gs es

  unknown_so : (e : Option Passwd) → IfSome P (wheel.unknown_if_none e)
  unknown_so None = unknown
  unknown_so (Some entry) = tt

  passed_so : (b : Bool) (e : Option Passwd) → IfSome P (cond b (Some returns.Ignore) (wheel.unknown_if_none e))
  passed_so true e = passed
  passed_so false e = unknown_so e

  user_in : (caller : ℕ) (es : List Passwd) (e : Option Passwd) → IfSome P (wheel.unless_tested args caller es e)
  user_in caller es None = unknown
  user_in caller es (Some entry) = passed_so (wheel.is_passed_over args entry) (entry_of_uid caller es)

  user_among : (caller : ℕ) (user : List ℕ) (es : Option (List Passwd)) → IfSome P (wheel.code_by_passwds args caller user es)
  user_among caller user None = failed
  user_among caller user (Some es) = user_in caller es (entry_of user es)

  wheel_checked : Gives P (sees_caller (wheel.checks_wheel args))
  wheel_checked = seeing_caller P _ (λ caller. asking P _ silent (λ user. reading_passwds P _
      (λ es. unless P _ _ (user_among caller user es) (reading_groups P _ (λ gs. answering P _ (groups_in caller es gs))))))

-- for any list that begins with these two
trusted_in : (b : Bool) (rest : List Code) → IsOneOf (wheel.trusted b) (returns.Success ∷ returns.Ignore ∷ rest)
trusted_in true rest = inl refl
trusted_in false rest = inr (inl refl)

trusting : (b : Bool) → wheel.trusted b ≡ returns.Success → b ≡ true
trusting true e = refl
trusting false e = absurd cc

pub trust_alone : WheelSucceedsIfTrusting
trust_alone call room held sight other =
    let P : Code → Type 0 = λ c. c ≡ returns.Success → has_argument (codes "trust") call.args ≡ true in
    told_by call.func P returns.Success (sees_caller (wheel.checks_wheel call.args)) (λ f. absurd (other f)) (λ e. absurd cc)
    (wheel_checked P call.args (trusting (has_argument (codes "trust") call.args)) (λ e. absurd cc) (λ e. absurd cc) (λ e. absurd cc) (λ e. absurd cc)
    (λ e. absurd cc)) _

pub wheels : ReturnsOf wheel.wheel_plays wheel_codes
wheels call room held sight =
    checked call.func returns.Success (sees_caller (wheel.checks_wheel call.args)) wheel_check (returns.Success ∷ []) (inl refl)
    (wheel_checked (λ c. IsOneOf c wheel_check) call.args (trusted_in (has_argument (codes "trust") call.args)
    (returns.PermDenied ∷ returns.ConvErr ∷ returns.ServiceErr ∷ returns.UserUnknown ∷ [])) (inr (inl refl)) (inr (inr (inl refl)))
    (inr (inr (inr (inr (inl refl))))) (inr (inr (inr (inr (inr (inl refl)))))) (inr (inr (inr (inl refl))))) _
