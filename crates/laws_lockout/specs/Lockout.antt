-- That wrong passwords lock a user out (pam_authenticate(3), pam_faillock(8); the statement is this
-- project's own).
use Rattle.std.specs.Prelude.{◌≡◌, ◌≢◌, ◌<◌, ◌^◌, ℕ, false, List, [], map, Option, Some, None, unwrap_or}
use Rattle.std.specs.List.{AllByRecursion}
use Rattle.pam_base.specs.declared.code.Code.{Code}
use Rattle.pam_base.specs.declared.code.Code.TheVariants as codes
use Rattle.pam_base.specs.declared.call.AppCall.TheVariants as calls
use Rattle.pam_outside.specs.Files.{file_at}
use Rattle.control_words.specs.declared.nodes.Rule.{Rule}
use Rattle.control_words.specs.Stack.{Stack, line}
use Rattle.stack_ways.specs.MayEnd.{CodesOf}
use Rattle.pam_room.specs.Module.{Player, sight_of}
use Rattle.pam_room.specs.State.{PlainWorld, scene_in, state_of}
use Rattle.pam_handle.specs.Handle.{PlainHandle}
use Rattle.pam_library.specs.declared.outcome.Answer.{Answer}
use Rattle.pam_library.specs.declared.outcome.Answer.TheVariants as answers
use Rattle.pam_library.specs.Plays.{ModuleGets, AskedLine, module_of_path}
use Rattle.pam_library.specs.SideBySide.{Met}
use Rattle.pam_library.specs.Slots.{PlainSlot, opened, slot_at}
use Rattle.pam_library.specs.Step.{stepped}
use Rattle.mod_tally.specs.declared.tally.Failure.{Failure}
use Rattle.mod_tally.specs.Faillock.{faillock_plays, is_no_file}
use Rattle.mod_tally.specs.Recorded.{Follow, deeds_of, failures_on_file, recorded_by}
use Rattle.mod_tally.specs.Settings.{PlainSettings, settings_of}
use Rattle.laws_lock.specs.Denied.{IsGate}
use Rattle.laws_lock.specs.Failed.{AreEnough, FitsTally, IsCounted}
use Rattle.laws_denial.specs.Kept_out.{EachLine, Suits}
use Rattle.laws_denial.specs.NoWay.{NoWay}
use Rattle.laws_audit.specs.Others.{AreKnown, IsApart, tally_path}
use Rattle.laws_audit.specs.Tallied.{IsTallied, IsText, TalliedLine, calls_in, line_in}
use Rattle.laws_lockout.specs.Within.{AllCountWithin}
use Rattle.laws_lockout.specs.Calls.{AreConfigured, OnlyTheseWrite, StepsAsk}

-- ---- the calls so far

-- a failure that the call records can be written: the time has at most 13 digits, and the items
-- that name its source are bytes
pub record CanWrite (a : ModuleGets) : Type 0 where
  pub moment : a.sight.clock.moment < 10 ^ 13
  pub rhost : IsText (faillock_plays a.call a.room a.held a.sight).room.items.rhost
  pub tty : IsText (faillock_plays a.call a.room a.held a.sight).room.items.tty
  pub service : IsText (faillock_plays a.call a.room a.held a.sight).room.items.service
  pub named : unwrap_or (faillock_plays a.call a.room a.held a.sight).room.items.service [] ≢ []

abbrev pub CanWriteIf : List Player → AskedLine → Type 0
CanWriteIf players a = (p : Player) → module_of_path players a.visit.path ≡ Some p
    → p.plays ≡ faillock_plays → CanWrite a.asked

-- ---- the next call

-- The user's next pam_authenticate(3), on a transaction with USER set and no call pending: it finds
-- the user's file as it was left.
pub record IsNext (slots : List PlainSlot) (number : ℕ) (h : PlainHandle) (w : PlainWorld)
    (set : PlainSettings) (root user : List ℕ) (left : Option (List ℕ)) : Type 0 where
  pub slot_is : slot_at slots number ≡ Some (opened h)
  pub begins : h.pending ≡ None
  pub user_is : h.room.transaction.items.user ≡ Some user
  pub root_is : w.process.root ≡ root
  pub found : file_at (tally_path root set.folder user) w.vault.files ≡ left
  pub fits : FitsTally left
  pub counted : IsCounted set (sight_of (scene_in (state_of h.room w))) user

-- the first line of a stack is `requisite pam_faillock.so preauth ..`, with these settings
pub record BeginsWithGate (players : List Player) (set : PlainSettings) (stack : Stack) : Type 0
  where
    pub rule : Rule
    pub rest : Stack
    pub stack_is : stack ≡ line rule rest
    pub gate : IsGate players rule
    pub settings : settings_of rule.args ≡ set

module _ (players : List Player) (number_of : Code → ℕ → ℕ) where
  -- what pam_authenticate(3) returns in a slot
  abbrev pub answer_in : List PlainSlot → PlainWorld → ℕ → ℕ → Answer
  answer_in slots w number flags = (stepped players number_of slots w (record {
    number = number;
    call = calls.Authenticate flags;
  })).outcome.answer

  -- It returns AUTH_ERR if the stack begins with pam_faillock. It doesn't return SUCCESS if the
  -- stack's lines of pam_faillock have these settings, and none of its ways leads round them.
  pub record IsDenied (slots : List PlainSlot) (number : ℕ) (h : PlainHandle) (w : PlainWorld)
      (set : PlainSettings) : Type 0 where
    pub at_once : (flags : ℕ) → BeginsWithGate players set h.stacks.auth
        → answer_in slots w number flags ≡ answers.Code codes.AuthErr
    pub in_the_end : (flags : ℕ) (possible : CodesOf)
        → EachLine (Suits players flags set possible) 1 h.stacks.auth
        → NoWay possible h.stacks.auth
        → answer_in slots w number flags ≢ answers.Code codes.Success

-- The lines that calls ran, and what each line of pam_faillock did to the user's file. If enough of
-- the failures that these recorded, since they were last cleared, count when the user
-- authenticates next, that is denied.
pub record LockOut (players : List Player) (number_of : Code → ℕ → ℕ) (slots : List PlainSlot)
    (steps : List Met) (root folder user : List ℕ) (interval : ℕ)
    (before after : Option (List ℕ)) : Type 0 where
  pub asked : List AskedLine
  pub asked_are : StepsAsk players number_of slots steps asked
  pub lines : List TalliedLine
  pub lines_are : map line_in lines ≡ asked
  pub each : AllByRecursion (IsTallied (tally_path root folder user) players) lines
  pub follow : Follow (tally_path root folder user) before (calls_in lines) after
  pub denied : (failures : List Failure) (set : PlainSettings) (later : List PlainSlot)
      (number : ℕ) (h : PlainHandle) (w : PlainWorld)
      → AllByRecursion (CanWriteIf players) asked
      → failures_on_file before ≡ Some failures
      → set.interval ≡ interval → set.folder ≡ folder
      → AreEnough set w.clock.moment (recorded_by (deeds_of (calls_in lines)) failures)
      → IsNext later number h w set root user after
      → IsDenied players number_of later number h w set

-- for each list of calls of a library of the fifteen modules, over configurations whose lines of
-- pam_faillock have one `fail_interval`, if nothing else writes the user's file
abbrev pub WrongPasswordsLockOut : Type 0
WrongPasswordsLockOut =
    (players : List Player) (number_of : Code → ℕ → ℕ) (slots : List PlainSlot) (steps : List Met)
    (root folder user : List ℕ) (interval : ℕ) (before after : Option (List ℕ)) →
    AreKnown players → IsApart folder → is_no_file user ≡ false →
    AreConfigured (AllCountWithin players interval) slots steps →
    OnlyTheseWrite players number_of (tally_path root folder user) slots before steps after →
    LockOut players number_of slots steps root folder user interval before after
