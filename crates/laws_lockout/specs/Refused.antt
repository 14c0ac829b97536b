-- That refused passwords lock a user out (pam_authenticate(3), pam_faillock(8); the statement is
-- this project's own).
use Rattle.std.specs.Prelude.{◌≡◌, ◌≢◌, ◌⊎◌, ◌≤◌, ◌<◌, ◌-◌, ◌^◌, ℕ, true, false, List, [], ◌∷◌, map, length, Contains, Option, Some, None, Ok, unwrap_or}
use Rattle.std.specs.List.{AllByRecursion}
use Rattle.pam_base.specs.declared.code.Code.{Code}
use Rattle.pam_base.specs.declared.code.Code.TheVariants as codes
use Rattle.pam_base.specs.declared.call.AppCall.TheVariants as calls
use Rattle.pam_base.specs.declared.call.Func.TheVariants.{Authenticate}
use Rattle.pam_outside.specs.Files.{file_at}
use Rattle.item_store.specs.Items.{ItemTexts}
use Rattle.control_words.specs.declared.nodes.Rule.{Rule}
use Rattle.control_words.specs.Stack.{Stack, line}
use Rattle.handler_chain.specs.Pass.{is_incomplete}
use Rattle.pam_room.specs.Module.{Played, Player, sight_of}
use Rattle.pam_room.specs.State.{PlainWorld, scene_in, state_of}
use Rattle.pam_room.specs.declared.visits.Visit.{Visit}
use Rattle.dispatch_core.specs.Lines.{answers_by}
use Rattle.pam_handle.specs.Call.{tokens_cleared}
use Rattle.pam_handle.specs.Handle.{PlainHandle}
use Rattle.pam_handle.specs.Items.{all_told}
use Rattle.pam_library.specs.Plays.{ModuleGets, AskedLine, StepAsks, module_of_path, visit_of}
use Rattle.pam_library.specs.SideBySide.{Met}
use Rattle.pam_library.specs.Slots.{PlainSlot, opened, slot_at}
use Rattle.pam_library.specs.Step.{stepped}
use Rattle.mod_tally.specs.declared.settings.Task.TheVariants.{AuthFail, AuthSucc, Clear}
use Rattle.mod_tally.specs.declared.tally.Failure.{Failure}
use Rattle.mod_tally.specs.Faillock.{faillock_plays, is_no_file, tally_limit, task_of}
use Rattle.mod_tally.specs.Recorded.{failures_on_file}
use Rattle.mod_tally.specs.Settings.{PlainSettings, settings_of, task_among}
use Rattle.mod_tally.specs.Tally.{is_soon, latest}
use Rattle.laws_lock.specs.Failed.{FitsTally, IsCounted}
use Rattle.laws_lock.specs.Usual.{IsUsual, one_more}
use Rattle.laws_audit.specs.Others.{AreKnown, IsApart, tally_path}
use Rattle.laws_audit.specs.Tallied.{IsText}
use Rattle.laws_lockout.specs.Calls.{AreConfigured, OnlyTheseWrite}
use Rattle.laws_lockout.specs.Lockout.{CanWrite, IsDenied, IsNext}
use Rattle.laws_lockout.specs.Within.{AllCountWithin}

-- ---- a call in which the password is refused

-- A stack begins with the three lines of the usual one: `requisite pam_faillock.so preauth ..`, the
-- line that verifies the password, as `[success=1 default=bad] pam_unix.so`, and `[default=die]
-- pam_faillock.so authfail ..`. Both lines of pam_faillock have these settings, and the second
-- line's module is another one.
pub record BeginsAsUsual (players : List Player) (set : PlainSettings) (stack : Stack) : Type 0
  where
    pub first : Rule
    pub second : Rule
    pub third : Rule
    pub rest : Stack
    pub stack_is : stack ≡ line first (line second (line third rest))
    pub usual : IsUsual players first second third
    pub preauth_set : settings_of first.args ≡ set
    pub authfail_set : settings_of third.args ≡ set
    pub other : (p : Player) → module_of_path players second.path ≡ Some p
        → p.plays ≢ faillock_plays

-- The trace of a call begins with these lines of its stack: the first returned SUCCESS, so the user
-- wasn't locked, and the second neither SUCCESS nor INCOMPLETE.
pub record ShowsRefusal (first second : Rule) (trail : List Visit) : Type 0 where
  pub refusal : Code
  pub others : List Visit
  pub begins : trail ≡ visit_of 1 first.path codes.Success ∷ visit_of 2 second.path refusal ∷ others
  pub refuses : refusal ≢ codes.Success
  pub whole : is_incomplete refusal ≡ false

-- the items of a transaction when pam_authenticate(3) runs the third line of its stack
abbrev pub items_at_third : List Player → ℕ → Rule → Rule → PlainHandle → PlainWorld → ItemTexts
items_at_third players flags first second h w =
    let answering = answers_by players Authenticate flags in
    let start = state_of (tokens_cleared (all_told h)).room w in
    (answering second 2 (answering first 1 start).state).state.room.transaction.items

-- the items that name the source of a failure are bytes, and there is a service
pub record NameSource (items : ItemTexts) : Type 0 where
  pub rhost : IsText items.rhost
  pub tty : IsText items.tty
  pub service : IsText items.service
  pub named : unwrap_or items.service [] ≢ []

-- one more failure fits in a file with this content, wherever it comes from
abbrev pub HasRoom : PlainSettings → ℕ → Option (List ℕ) → Type 0
HasRoom set now found = (failures : List Failure) (items : ItemTexts)
    → failures_on_file found ≡ Some failures
    → length (one_more set now items failures) ≤ tally_limit

-- ---- other calls

-- what pam_faillock does, given what its module got
abbrev pub by_faillock : ModuleGets → Played
by_faillock a = faillock_plays a.call a.room a.held a.sight

-- A line that was run is one of pam_faillock, for the user with this file.
pub record IsForFile (players : List Player) (path : List ℕ) (a : AskedLine) : Type 0 where
  pub player : Player
  pub module_is : module_of_path players a.visit.path ≡ Some player
  pub is_faillock : player.plays ≡ faillock_plays
  pub user : List ℕ
  pub user_is : (by_faillock a.asked).room.items.user ≡ Some user
  pub path_is : tally_path a.asked.sight.root (settings_of a.asked.call.args).folder user ≡ path

-- A failure that it records with `authfail` can be written, and it doesn't clear the failures, as
-- `authsucc` or acct_mgmt with SUCCESS may.
pub record LeavesFailures (a : ModuleGets) : Type 0 where
  pub can : task_of a.call.func (task_among a.call.args) ≡ Ok AuthFail → CanWrite a
  pub clears_not : (task_of a.call.func (task_among a.call.args) ≡ Ok Clear)
      ⊎ (task_of a.call.func (task_among a.call.args) ≡ Ok AuthSucc)
      → (by_faillock a).code ≢ codes.Success

-- ---- calls one after another

-- a call in which this user's password was refused, or another one
pub data Attempt : Type 0 where
  refused : Met → Attempt
  another : Met → Attempt

abbrev pub met_in : Attempt → Met
met_in (refused m) = m
met_in (another m) = m

abbrev pub all_met : List Attempt → List Met
all_met attempts = map met_in attempts

-- when the passwords were refused
abbrev pub times_of : List Attempt → List ℕ
times_of [] = []
times_of (refused m ∷ attempts) = m.world.clock.moment ∷ times_of attempts
times_of (another m ∷ attempts) = times_of attempts

module _ (players : List Player) (number_of : Code → ℕ → ℕ) (set : PlainSettings)
    (root user : List ℕ) where
  -- A call is pam_authenticate(3), on a transaction with USER set and no call pending, whose stack
  -- begins as usual, and the password is refused. Then the failure can be recorded: failures of the
  -- user are counted, no access fails, and there is room in the file.
  pub record IsRefused (slots : List PlainSlot) (m : Met) : Type 0 where
    pub h : PlainHandle
    pub flags : ℕ
    pub slot_is : slot_at slots m.step.number ≡ Some (opened h)
    pub call_is : m.step.call ≡ calls.Authenticate flags
    pub begins : h.pending ≡ None
    pub user_is : h.room.transaction.items.user ≡ Some user
    pub root_is : m.world.process.root ≡ root
    pub stack : BeginsAsUsual players set h.stacks.auth
    pub shows : ShowsRefusal stack.first stack.second
        (stepped players number_of slots m.world m.step).outcome.trail
    pub counted : IsCounted set (sight_of (scene_in (state_of h.room m.world))) user
    pub fits : FitsTally (file_at (tally_path root set.folder user) m.world.vault.files)
    pub room : HasRoom set m.world.clock.moment
        (file_at (tally_path root set.folder user) m.world.vault.files)
    pub moment : m.world.clock.moment < 10 ^ 13
    pub source : NameSource (items_at_third players flags stack.first stack.second h m.world)

  -- the lines of pam_faillock that a call runs for this user leave the failures
  abbrev pub IsOther : List PlainSlot → Met → Type 0
  IsOther slots m = (asked : List AskedLine)
      → StepAsks players number_of slots m.world m.step asked
      → AllByRecursion (λ (a : AskedLine). IsForFile players (tally_path root set.folder user) a
      → LeavesFailures a.asked) asked

  abbrev pub AreAttempts : List PlainSlot → List Attempt → Type 0
  AreAttempts slots [] = Unit {0}
  AreAttempts slots (refused m ∷ attempts) = IsRefused slots m
      × AreAttempts (stepped players number_of slots m.world m.step).slots attempts
  AreAttempts slots (another m ∷ attempts) = IsOther slots m
      × AreAttempts (stepped players number_of slots m.world m.step).slots attempts

-- ---- enough of them

-- All calls were made by this time, the refusals less than `fail_interval` seconds before it, and
-- there are at least `deny` of these.
pub record AreTooMany (set : PlainSettings) (last : ℕ) (attempts : List Attempt) : Type 0 where
  pub by_then : AllByRecursion (λ (m : Met). m.world.clock.moment ≤ last) (all_met attempts)
  pub within : AllByRecursion (λ (time : ℕ). last - time < set.interval) (times_of attempts)
  pub enough : set.deny ≤ length (times_of attempts)

-- Calls of a library of the fifteen modules, one after another, in whatever transactions, over
-- configurations whose lines of pam_faillock have one `fail_interval`; nothing else writes the
-- user's file, whose failures at the start aren't from a later time. If the user's password was
-- refused too often in them, and less than `unlock_time` seconds have passed since one of the
-- refusals, the user's next pam_authenticate(3) is denied.
abbrev pub RefusedPasswordsLockOut : Type 0
RefusedPasswordsLockOut =
    (players : List Player) (number_of : Code → ℕ → ℕ) (slots : List PlainSlot)
    (attempts : List Attempt) (root user : List ℕ) (set : PlainSettings) (last time : ℕ)
    (before after : Option (List ℕ)) (failures : List Failure) (later : List PlainSlot)
    (number : ℕ) (h : PlainHandle) (w : PlainWorld) →
    AreKnown players → IsApart set.folder → is_no_file user ≡ false →
    AreConfigured (AllCountWithin players set.interval) slots (all_met attempts) →
    OnlyTheseWrite players number_of (tally_path root set.folder user) slots before
    (all_met attempts) after →
    failures_on_file before ≡ Some failures → latest failures ≤ last →
    AreAttempts players number_of set root user slots attempts →
    AreTooMany set last attempts → Contains (times_of attempts) time →
    IsNext later number h w set root user after → is_soon set.unlock time w.clock.moment ≡ true →
    IsDenied players number_of later number h w set
