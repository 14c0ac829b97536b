-- That the usual stack records a refused password (pam.conf(5), pam_faillock(8); the statement is
-- this project's own).
use Rattle.std.specs.Prelude.{◌≡◌, ◌≢◌, ◌≤◌, ℕ, false, List, [], ◌∷◌, ◌++◌, Some, codes, length}
use Rattle.pam_base.specs.declared.call.Func.TheVariants.{Authenticate}
use Rattle.pam_base.specs.declared.code.Code.{Code}
use Rattle.pam_base.specs.declared.code.Code.TheVariants.{Ignore, Success}
use Rattle.pam_outside.specs.Files.{File, file_at}
use Rattle.pam_outside.specs.Paths.{path_of}
use Rattle.control_words.specs.declared.control.Action.TheVariants as actions
use Rattle.control_words.specs.declared.nodes.Rule.{Rule}
use Rattle.control_words.specs.Control.{action_at}
use Rattle.control_words.specs.Stack.{Stack, line}
use Rattle.handler_chain.specs.declared.pass_kind.PassKind.TheVariants as kinds
use Rattle.handler_chain.specs.Pass.{PassState, is_incomplete, pass_after, visit}
use Rattle.handler_chain.specs.Route.{KeptAnswers}
use Rattle.handler_chain.specs.Walk.{Walked, code_of}
use Rattle.item_store.specs.Items.{ItemTexts}
use Rattle.pam_room.specs.Call.{PlainCall}
use Rattle.pam_room.specs.Module.{NamedData, Played, Player, SeenRoom, Sight, sight_of}
use Rattle.pam_room.specs.State.{State, scene_in}
use Rattle.dispatch_core.specs.Lines.{answers_by}
use Rattle.mod_tally.specs.declared.tally.Failure.{Failure}
use Rattle.mod_tally.specs.Faillock.{faillock_plays, new_failure, tally_limit, tally_name}
use Rattle.mod_tally.specs.Recorded.{failures_on_file}
use Rattle.mod_tally.specs.Settings.{PlainSettings, settings_of, task_among, task_word}
use Rattle.mod_tally.specs.Tally.{counting, is_locked, tally_text}
use Rattle.laws_lock.specs.Denied.{IsFaillock, IsGate}
use Rattle.laws_lock.specs.Failed.{FitsTally, IsCounted}

-- ---- the module

-- the failures in the user's file, and a new one after them: those that count together
abbrev pub one_more : PlainSettings → ℕ → ItemTexts → List Failure → List ℕ
one_more s now items failures =
    tally_text (counting s.interval (failures ++ new_failure now items ∷ []))

-- A failure of the user can be recorded: it is a user of whom failures are counted, and who isn't
-- locked, no access fails, the file isn't damaged, and has room for one more.
pub record CanRecord (s : PlainSettings) (sight : Sight) (items : ItemTexts) (user : List ℕ)
    (failures : List Failure) : Type 0 where
  pub counted : IsCounted s sight user
  pub on_file : failures_on_file
      (file_at (path_of sight.root (tally_name s.folder user)) sight.files) ≡ Some failures
  pub fits : FitsTally (file_at (path_of sight.root (tally_name s.folder user)) sight.files)
  pub unlocked : is_locked s.deny s.interval s.unlock sight.clock.moment failures ≡ false
  pub has_room : length (one_more s sight.clock.moment items failures) ≤ tally_limit

-- IGNORE was returned, the failure is in the file, and the transaction is as before
pub record HasRecorded (path text : List ℕ) (room : SeenRoom) (p : Played) : Type 0 where
  pub code_is : p.code ≡ Ignore
  pub file_is : file_at path p.files ≡ Some text
  pub room_is : p.room ≡ room

-- authenticate of a line `pam_faillock.so authfail ..` records a failure that can be recorded
abbrev pub AuthfailRecords : Type 0
AuthfailRecords =
    (call : PlainCall) (room : SeenRoom) (held : List NamedData) (sight : Sight) (user : List ℕ)
    (failures : List Failure) →
    let s = settings_of call.args in
    call.func ≡ Authenticate → task_among call.args ≡ task_word (codes "authfail") →
    room.items.user ≡ Some user → CanRecord s sight room.items user failures →
    HasRecorded (path_of sight.root (tally_name s.folder user))
    (one_more s sight.clock.moment room.items failures) room (faillock_plays call room held sight)

-- ---- the stack

-- the first three lines of the usual stack: `requisite pam_faillock.so preauth ..`; the line that
-- verifies the password, with `bad` for each code except SUCCESS, as
-- `[success=1 default=bad] pam_unix.so`; and `[default=die] pam_faillock.so authfail ..`
pub record IsUsual (players : List Player) (first second third : Rule) : Type 0 where
  pub gate : IsGate players first
  pub refuses : (code : Code) → code ≢ Success → action_at second.control code ≡ actions.Bad
  pub faillock : IsFaillock players third
  pub authfail : task_among third.args ≡ task_word (codes "authfail")
  pub dies : (code : Code) → action_at third.control code ≡ actions.Die

-- The run denies, after these three lines alone, and the failure is in the file.
pub record RefusedAndRecorded (path text : List ℕ) (refusal : Code)
    (w : Walked (PassState State)) : Type 0 where
  pub denied : code_of w ≢ Success
  pub ran : w.state.visits ≡ visit 1 Success ∷ visit 2 refusal ∷ visit 3 Ignore ∷ []
  pub file_is : file_at path w.state.state.world.vault.files ≡ Some text

-- Whatever lines follow, whatever other modules there are, and whatever is cached: the first line
-- lets the user pass, and the second doesn't return SUCCESS, nor leaves the run incomplete. A
-- failure can be recorded after it, with USER set.
abbrev pub RefusedIsRecorded : Type 0
RefusedIsRecorded =
    (players : List Player) (flags : ℕ) (kept : KeptAnswers) (first second third : Rule)
    (rest : Stack) (s : State) (user : List ℕ) (failures : List Failure) →
    IsUsual players first second third →
    let answering = answers_by players Authenticate flags in
    let a = answering first 1 s in
    let b = answering second 2 a.state in
    let set = settings_of third.args in
    let sight = sight_of (scene_in b.state) in
    let items = b.state.room.transaction.items in
    a.answer ≡ Success → b.answer ≢ Success → is_incomplete b.answer ≡ false →
    items.user ≡ Some user → CanRecord set sight items user failures →
    RefusedAndRecorded (path_of sight.root (tally_name set.folder user))
    (one_more set sight.clock.moment items failures) b.answer
    (pass_after kinds.Keep kept answering (line first (line second (line third rest))) [] s)
