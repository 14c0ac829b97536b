-- The codes of pam_faillock.
use Rattle.std.proofs.Common.{inl, inr, ℕ, Bool, true, false, ◌==◌, ◌&&◌, not, nat_le, List, [], ◌∷◌, length, Option, Some, None, refl}
use Rattle.pam_base.specs.declared.code.Code.{Code}
use Rattle.pam_base.specs.declared.code.Code.TheVariants as returns
use Rattle.pam_base.specs.declared.call.Func.{Func}
use Rattle.pam_base.specs.declared.call.Func.TheVariants.{Authenticate, SetCred, AcctMgmt, OpenSession, CloseSession, ChAuthTok}
use Rattle.module_acts.specs.Accounts.{Account, found, missing, unreadable}
use Rattle.module_acts.specs.Act.{Act, answers, lets_go}
use Rattle.module_acts.specs.Content.{is_rooted}
use Rattle.mod_tally.specs.declared.tally.Failure.{Failure}
use Rattle.mod_tally.specs.declared.settings.Task.{Task}
use Rattle.mod_tally.specs.declared.settings.Task.TheVariants.{Preauth, AuthFail, AuthSucc, Clear}
use Rattle.mod_tally.specs.Settings.{PlainSettings, settings_of, task_among}
use Rattle.mod_tally.specs.Tally.{is_locked, tally_text}
use Rattle.mod_tally.specs.Faillock.{task_for_account, task_or_code, task_on_file, denies_if_locked, unless_no_file, unless_spared}
use Rattle.mod_tally.specs.Faillock.{task_if_readable, task_on_failures, checks_tally, clears, does_task, failures_in, faillock_plays}
use Rattle.mod_tally.specs.Faillock.{given_mode, if_any, if_held, if_taken, is_no_file, lock_name, locks_file, reads_tally, records}
use Rattle.mod_tally.specs.Faillock.{sets_if, spared_answer, tally_limit, tally_name, task_of, tries_lock, unless_locked, write_result}
use Rattle.laws_code.specs.Codes.{faillock_account, faillock_auth, faillock_codes}
use Rattle.laws_code.specs.Returns.{IsOneOf, ReturnsOf}
use Rattle.laws_code.proofs.ModuleCodeFacts.{Gives, answering, asking, finding, holding, letting_go, reading, replacing, seeing_items, seeing_moment}

module _ (P : Code → Type 0) where
  -- the rest holds what it holds for each of these codes
  record Rest (act : Code → Act) : Type 0 where
    ends : Gives P (act returns.Success)
    passed : Gives P (act returns.Ignore)
    failed : Gives P (act returns.ServiceErr)

  written : (act : Code → Act) (code : Code) (done : Bool) → Gives P (act code) → Gives P (act returns.ServiceErr) → Gives P (act (write_result code done))
  written act code true p q = p
  written act code false p q = q

  set_if : (b : Bool) (name text : List ℕ) (code : Code) (act : Code → Act) → Gives P (act code) → Gives P (act returns.ServiceErr)
      → Gives P (sets_if b name text code act)
  set_if true name text code act p q = replacing P name text (λ done. act (write_result code done)) (λ done. written act code done p q)
  set_if false name text code act p q = q

  cleared : (name : List ℕ) (failures : List Failure) (act : Code → Act) → Rest act → Gives P (clears name failures act)
  cleared name [] act r = r.ends
  cleared name (f ∷ fs) act r = set_if (is_rooted name && nat_le (length (tally_text [])) tally_limit) name (tally_text []) returns.Success act r.ends r.failed

  recorded : (s : PlainSettings) (name : List ℕ) (failures : List Failure) (act : Code → Act) → Rest act → Gives P (records s name failures act)
  recorded s name failures act r = seeing_moment P _ (λ now. seeing_items P _ (λ items. set_if _ name _ returns.Ignore act r.passed r.failed))

  locked_or : (b : Bool) (step : (Code → Act) → Act) (act : Code → Act) → Gives P (act returns.AuthErr) → Gives P (step act)
      → Gives P (denies_if_locked b step act)
  locked_or true step act p q = p
  locked_or false step act p q = q

  unlocked : (s : PlainSettings) (failures : List Failure) (step : (Code → Act) → Act) (act : Code → Act) → Gives P (act returns.AuthErr)
      → Gives P (step act) → Gives P (unless_locked s failures step act)
  unlocked s failures step act p q = seeing_moment P _ (λ now. locked_or (is_locked s.deny s.interval s.unlock now failures) step act p q)

  taken : (lock : List ℕ) (act : Code → Act) → Rest act → (b : Bool) → Gives P (if_taken lock act b)
  taken lock act r true = letting_go P (is_rooted lock) (act returns.Success) r.ends
  taken lock act r false = r.failed

  tried : (lock : List ℕ) (act : Code → Act) → Rest act → Gives P (tries_lock lock act)
  tried lock act r = holding P lock _ (if_taken lock act) (taken lock act r)

  -- the rest too, where a user may be refused
  abbrev Refuses : Task → (Code → Act) → Type 0
  Refuses Preauth act = Gives P (act returns.AuthErr)
  Refuses AuthFail act = Gives P (act returns.AuthErr)
  Refuses AuthSucc act = Gives P (act returns.AuthErr)
  Refuses Clear act = Unit {0}

  done_by : (task : Task) (s : PlainSettings) (file lock : List ℕ) (failures : List Failure) (act : Code → Act) → Refuses task act → Rest act
      → Gives P (task_on_failures task s file lock failures act)
  done_by Preauth s file lock failures act d r = unlocked s failures (tries_lock lock) act d (tried lock act r)
  done_by AuthFail s file lock failures act d r = unlocked s failures (records s file failures) act d (recorded s file failures act r)
  done_by AuthSucc s file lock failures act d r = unlocked s failures (clears file failures) act d (cleared file failures act r)
  done_by Clear s file lock failures act d r = cleared file failures act r

  tallied : (task : Task) (s : PlainSettings) (file lock : List ℕ) (act : Code → Act) → Refuses task act → Rest act → (failures : Option (List Failure))
      → Gives P (task_if_readable task s file lock act failures)
  tallied task s file lock act d r None = r.failed
  tallied task s file lock act d r (Some failures) = done_by task s file lock failures act d r

  read_so : (name : List ℕ) (act : Option (List Failure) → Act) → ((fs : Option (List Failure)) → Gives P (act fs)) → Gives P (reads_tally name act)
  read_so name act rest = reading P name tally_limit (λ c. act (failures_in c)) (λ c. rest (failures_in c))

  filed : (task : Task) (s : PlainSettings) (file lock : List ℕ) (act : Code → Act) → Refuses task act → Rest act → Gives P (task_on_file task s file lock act)
  filed task s file lock act d r = read_so file (task_if_readable task s file lock act) (tallied task s file lock act d r)

  let_go : (b : Bool) (act : Code → Act) → Rest act → Rest (λ code. lets_go b (act code))
  let_go b act r = record {
    ends = letting_go P b (act returns.Success) r.ends;
    passed = letting_go P b (act returns.Ignore) r.passed;
    failed = letting_go P b (act returns.ServiceErr) r.failed;
  }

  refused_later : (b : Bool) (task : Task) (act : Code → Act) → Refuses task act → Refuses task (λ code. lets_go b (act code))
  refused_later b Preauth act d = letting_go P b (act returns.AuthErr) d
  refused_later b AuthFail act d = letting_go P b (act returns.AuthErr) d
  refused_later b AuthSucc act d = letting_go P b (act returns.AuthErr) d
  refused_later b Clear act d = tt

  held : (task : Task) (s : PlainSettings) (file lock : List ℕ) (act : Code → Act) → Refuses task act → Rest act → (b : Bool)
      → Gives P (if_held task s file lock act b)
  held task s file lock act d r true = filed task s file lock (λ code. lets_go (is_rooted lock) (act code)) (refused_later (is_rooted lock) task act d)
      (let_go (is_rooted lock) act r)
  held task s file lock act d r false = r.failed

  locked : (task : Task) (s : PlainSettings) (file lock : List ℕ) (act : Code → Act) → Refuses task act → Rest act → Gives P (locks_file task s file lock act)
  locked task s file lock act d r = holding P lock _ (if_held task s file lock act) (held task s file lock act d r)

  some_or_none : (task : Task) (s : PlainSettings) (file lock : List ℕ) (act : Code → Act) → Refuses task act → Rest act → (fs : Option (List Failure))
      → Gives P (if_any task s file lock act fs)
  some_or_none task s file lock act d r None = r.failed
  some_or_none task s file lock act d r (Some []) = r.ends
  some_or_none task s file lock act d r (Some (f ∷ fs)) = locked task s file lock act d r

  does_so : (task : Task) (s : PlainSettings) (file lock : List ℕ) (act : Code → Act) → Refuses task act → Rest act → Gives P (does_task task s file lock act)
  does_so Preauth s file lock act d r = filed Preauth s file lock act d r
  does_so AuthFail s file lock act d r = locked AuthFail s file lock act d r
  does_so AuthSucc s file lock act d r = read_so file (if_any AuthSucc s file lock act) (some_or_none AuthSucc s file lock act d r)
  does_so Clear s file lock act d r = read_so file (if_any Clear s file lock act) (some_or_none Clear s file lock act d r)

module _ (P : Code → Type 0) (ends : P returns.Success) (passed : P returns.Ignore) (failed : P returns.ServiceErr) (unknown : P returns.UserUnknown) where
  at_end : Rest P answers
  at_end = record { ends = answering P returns.Success ends; passed = answering P returns.Ignore passed; failed = answering P returns.ServiceErr failed }

  spared : (task : Task) → P (spared_answer task)
  spared Preauth = ends
  spared AuthFail = passed
  spared AuthSucc = ends
  spared Clear = ends

  root_or : (b : Bool) (task : Task) (s : PlainSettings) (user : List ℕ) → Refuses P task answers → Gives P (unless_spared b task s user)
  root_or true task s user d = answering P _ (spared task)
  root_or false task s user d = does_so P task s (tally_name s.folder user) (lock_name s.folder user) answers d at_end

  accounted : (task : Task) (s : PlainSettings) (user : List ℕ) → Refuses P task answers → (a : Account) → Gives P (task_for_account task s user a)
  accounted task s user d unreadable = answering P returns.ServiceErr failed
  accounted task s user d missing = answering P returns.Ignore passed
  accounted task s user d (found entry) = root_or (entry.uid == 0 && not s.locks_root) task s user d

  named : (b : Bool) (task : Task) (s : PlainSettings) (user : List ℕ) → Refuses P task answers → Gives P (unless_no_file b task s user)
  named true task s user d = answering P returns.UserUnknown unknown
  named false task s user d = finding P user (task_for_account task s user) (accounted task s user d)

  tally_checked : P returns.ConvErr → (task : Task) (s : PlainSettings) → Refuses P task answers → Gives P (checks_tally task s)
  tally_checked silent task s d = asking P _ silent (λ user. named (is_no_file user) task s user d)

refusing : (P : Code → Type 0) → P returns.AuthErr → (task : Task) → Refuses P task answers
refusing P p Preauth = answering P returns.AuthErr p
refusing P p AuthFail = answering P returns.AuthErr p
refusing P p AuthSucc = answering P returns.AuthErr p
refusing P p Clear = tt

given : (mode : Option Task) (s : PlainSettings) → Gives (λ c. IsOneOf c faillock_auth) (task_or_code (given_mode mode) s)
given None s = answering (λ c. IsOneOf c faillock_auth) returns.ServiceErr (inr (inr (inr (inr (inl refl)))))
given (Some task) s =
    let P : Code → Type 0 = λ c. IsOneOf c faillock_auth in
    tally_checked P (inl refl) (inr (inl refl)) (inr (inr (inr (inr (inl refl))))) (inr (inr (inr (inr (inr (inl refl)))))) (inr (inr (inr (inl refl)))) task s
    (refusing P (inr (inr (inl refl))) task)

missing_so : Gives (λ c. IsOneOf c (returns.ModuleUnknown ∷ [])) (answers returns.ModuleUnknown)
missing_so = answering (λ c. IsOneOf c (returns.ModuleUnknown ∷ [])) returns.ModuleUnknown (inl refl)

by_function : (f : Func) (mode : Option Task) (s : PlainSettings) → Gives (λ c. IsOneOf c (faillock_codes f)) (task_or_code (task_of f mode) s)
by_function Authenticate mode s = given mode s
by_function SetCred mode s = answering (λ c. IsOneOf c (returns.Success ∷ [])) returns.Success (inl refl)
by_function AcctMgmt mode s = tally_checked (λ c. IsOneOf c faillock_account) (inl refl) (inr (inl refl)) (inr (inr (inr (inl refl))))
    (inr (inr (inr (inr (inl refl))))) (inr (inr (inl refl))) Clear s tt
by_function OpenSession mode s = missing_so
by_function CloseSession mode s = missing_so
by_function ChAuthTok mode s = missing_so

pub tallies : ReturnsOf faillock_plays faillock_codes
tallies call room held sight = by_function call.func (task_among call.args) (settings_of call.args) _
