-- A call of pam_authenticate(3) in which the password is refused records a failure.
use Rattle.std.proofs.Common.{◌≡◌, ◌≢◌, inl, inr, ℕ, suc, zero, ◌==◌, ◌≤◌, Bool, true, false, if◌then◌else◌, List, [], ◌∷◌, length, Option, Some}
use Rattle.std.proofs.Common.{None, codes, slice_get, refl, sym, ap, ◌∙◌, subst}
use Rattle.std.specs.List.{AllByRecursion}
use Rattle.pam_base.specs.declared.code.Code.{Code}
use Rattle.pam_base.specs.declared.code.Code.TheVariants as codes_of
use Rattle.pam_base.specs.declared.call.AppCall.{AppCall}
use Rattle.pam_base.specs.declared.call.AppCall.TheVariants as calls
use Rattle.pam_base.specs.declared.call.Func.TheVariants.{Authenticate}
use Rattle.pam_base.specs.declared.call.Step.{Step}
use Rattle.pam_outside.specs.Files.{File, VaultState, file_at}
use Rattle.pam_outside.specs.Paths.{path_of}
use Rattle.pam_outside.specs.Time.{random_taken, rested}
use Rattle.item_store.specs.Items.{ItemTexts}
use Rattle.control_words.specs.Stack.{Stack, line}
use Rattle.handler_chain.specs.FlatLines.{module_of}
use Rattle.handler_chain.specs.declared.pass_kind.PassKind.TheVariants as kinds
use Rattle.handler_chain.specs.Pass.{Answering, is_incomplete, pass_after}
use Rattle.pam_room.specs.Call.{PlainCall}
use Rattle.pam_room.specs.Module.{NamedData, Player, Plays, SeenRoom, Sight, sight_of}
use Rattle.pam_room.specs.State.{PlainRoom, PlainWorld, State, scene_in, state_of}
use Rattle.dispatch_core.specs.Calls.{answers_held}
use Rattle.dispatch_core.specs.Lines.{answers_by, names_of}
use Rattle.dispatch_core.specs.Pending.{Pending}
use Rattle.pam_handle.specs.AfterPasses.{EndsLeaveIt}
use Rattle.pam_handle.specs.Call.{items_begun, tokens_cleared}
use Rattle.pam_handle.specs.Handle.{PlainHandle}
use Rattle.pam_handle.specs.Items.{all_told}
use Rattle.pam_handle.specs.StackCalls.{passes_of, stack_call}
use Rattle.pam_library.specs.declared.outcome.Answer.TheVariants as answers
use Rattle.pam_library.specs.Plays.{AskedLine, RunOn, RunsBy, RunsLines, StepAsks, player_numbered}
use Rattle.pam_library.specs.StackOf.{stack_of}
use Rattle.pam_library.specs.SideBySide.{Met}
use Rattle.pam_library.specs.SlotStep.{SlotStepped, filed_in, other_pending, told_by, unless_pending}
use Rattle.pam_library.specs.Slots.{PlainSlot, opened, slot_at}
use Rattle.pam_library.specs.Step.{stepped, stepped_at}
use Rattle.fail_delay.specs.Delay.{asked_delay}
use Rattle.fail_delay.specs.Wait.{wait_of}
use Rattle.mod_tally.specs.declared.tally.Failure.{Failure}
use Rattle.mod_tally.specs.Faillock.{faillock_plays, tally_limit, tally_name}
use Rattle.mod_tally.specs.Recorded.{Deed, Does, failures_on_file}
use Rattle.mod_tally.specs.Settings.{PlainSettings}
use Rattle.mod_tally.specs.Tally.{is_locked}
use Rattle.laws_lock.specs.Failed.{FitsTally, IsCounted}
use Rattle.laws_lock.specs.Locked.{IsLocked, LockedIsRefused}
use Rattle.laws_lock.specs.Usual.{CanRecord, RefusedIsRecorded, one_more}
use Rattle.laws_denial.specs.Leaving.{LeavesUserAndFiles}
use Rattle.laws_audit.specs.Others.{AreKnown, IsAmong, other_plays, tally_path}
use Rattle.laws_lockout.specs.Refused.{IsRefused, NameSource}
use Rattle.laws_lockout.proofs.FirstLineFacts.{Returned, Stays, by_trace, gate_answers, past_gate, past_other}

-- ---- the other modules

among : (all : List Plays) → AllByRecursion LeavesUserAndFiles all → (plays : Plays) → IsAmong plays all → LeavesUserAndFiles plays
among [] leaves plays is = absurd is
among (p ∷ ps) leaves plays (inl e) = subst LeavesUserAndFiles (sym e) leaves.0
among (p ∷ ps) leaves plays (inr is) = among ps leaves.1 plays is

by_kind : AllByRecursion LeavesUserAndFiles other_plays → (plays : Plays) → plays ≢ faillock_plays → IsAmong plays (faillock_plays ∷ other_plays)
    → LeavesUserAndFiles plays
by_kind leaves plays not (inl e) = absurd (not e)
by_kind leaves plays not (inr is) = among other_plays leaves plays is

known_at : (players : List Player) → AreKnown players → (n : ℕ) (p : Player) → slice_get players n ≡ Some p → IsAmong p.plays (faillock_plays ∷ other_plays)
known_at [] known n p e = absurd cc
known_at (q ∷ qs) known zero p e = subst (λ (x : Player). IsAmong x.plays (faillock_plays ∷ other_plays)) (let same : q ≡ p = cc in same) known.0
known_at (q ∷ qs) known (suc n) p e = known_at qs known.1 n p e

-- ---- the files after the call are those after its pass

module _ (ends : EndsLeaveIt) (players : List Player) (number_of : Code → ℕ → ℕ) where
  abbrev files_past : ℕ → PlainHandle → PlainWorld → List File
  files_past flags h w =
      (pass_after kinds.Keep (answers_held h.authenticated) (answers_by players Authenticate flags) h.stacks.auth []
      (state_of (tokens_cleared h).room w)).state.state.world.vault.files

  call_files : (flags : ℕ) (h : PlainHandle) (w : PlainWorld) → h.pending ≡ None
      → (stack_call players number_of Authenticate flags h w).world.vault.files ≡ files_past flags h w
  call_files flags h w none =
      let begins : PlainHandle = record h { pending = None } in
      subst (λ (x : PlainHandle). (stack_call players number_of Authenticate flags x w).world.vault.files ≡ files_past flags x w)
      (sym (ap (λ (p : Option Pending). record h { pending = p }) none))
      (ap (λ (v : VaultState). v.files) (ends number_of Authenticate (passes_of players Authenticate flags begins w) begins).vault)

  past_end : (pending : Option Pending) (slot : PlainSlot) (w : PlainWorld) (s : SlotStepped) → pending ≡ None
      → (unless_pending (other_pending pending Authenticate) slot w s).world ≡ s.world
  past_end None slot w s none = refl
  past_end (Some p) slot w s none = absurd cc

  in_slot : (slots : List PlainSlot) (w : PlainWorld) (number flags : ℕ) (found : Option PlainSlot) (h : PlainHandle) → found ≡ Some (opened h)
      → h.pending ≡ None
      → (stepped_at players number_of slots w number (calls.Authenticate flags) found).world.vault.files ≡ files_past flags (all_told h) w
  in_slot slots w number flags found h there none =
      let c = stack_call players number_of Authenticate flags (all_told h) w in
      subst (λ (o : Option PlainSlot). (stepped_at players number_of slots w number (calls.Authenticate flags) o).world.vault.files
      ≡ files_past flags (all_told h) w)
      (sym there)
      (ap (λ (v : PlainWorld). v.vault.files) (past_end h.pending (opened (all_told h)) w (told_by (filed_in w) (answers.Code c.code) c) none)
      ∙ call_files flags (all_told h) w none)

  pub files_are : (slots : List PlainSlot) (w : PlainWorld) (step : Step) (flags : ℕ) (h : PlainHandle) → step.call ≡ calls.Authenticate flags
      → slot_at slots step.number ≡ Some (opened h) → h.pending ≡ None
      → (stepped players number_of slots w step).world.vault.files ≡ files_past flags (all_told h) w
  unfolding stepped
  files_are slots w step flags h is there none =
      ap (λ (c : AppCall). (stepped_at players number_of slots w step.number c (slot_at slots step.number)).world.vault.files) is
      ∙ in_slot slots w step.number flags (slot_at slots step.number) h there none

-- ---- the transaction in which the call begins

begun_room : (pending : Option Pending) (room : PlainRoom) (w : PlainWorld) → pending ≡ None
    → state_of (record room { transaction = record room.transaction { items = items_begun pending room.transaction.items } }) w
    ≡ state_of (record room { transaction = record room.transaction { items = items_begun None room.transaction.items } }) w
begun_room pending room w none =
    ap (λ (p : Option Pending). state_of (record room { transaction = record room.transaction { items = items_begun p room.transaction.items } }) w) none

-- ---- the call

-- a user who isn't locked is one whom the failures in the file don't lock
module _ (set : PlainSettings) (sight : Sight) (user : List ℕ) (failures : List Failure) (counted : IsCounted set sight user)
    (not : IsLocked set sight user → ⊥) where
  unlocked_by : (o : Option (List ℕ)) → file_at (path_of sight.root (tally_name set.folder user)) sight.files ≡ o → failures_on_file o ≡ Some failures
      → FitsTally o → (b : Bool) → is_locked set.deny set.interval set.unlock sight.clock.moment failures ≡ b → b ≡ false
  unlocked_by o at stood fits false e = refl
  unlocked_by None at stood fits true e =
      let is : Some [] ≡ Some failures = stood in
      let none : failures ≡ [] = cc in
      sym e ∙ ap (λ (fs : List Failure). is_locked set.deny set.interval set.unlock sight.clock.moment fs) none
  unlocked_by (Some text) at stood fits true e = absurd (not (record {
    named = counted.named;
    passwd = counted.passwd;
    passwd_is = counted.passwd_is;
    passwd_fits = counted.passwd_fits;
    entries = counted.entries;
    entries_are = counted.entries_are;
    entry = counted.entry;
    entry_is = counted.entry_is;
    lockable = counted.lockable;
    folder = counted.folder;
    tally = text;
    tally_is = at;
    tally_fits = fits text refl;
    failures = failures;
    failures_are = stood;
    locked = e;
    none_fails = counted.none_fails;
  }))

  unlocked : failures_on_file (file_at (path_of sight.root (tally_name set.folder user)) sight.files) ≡ Some failures
      → FitsTally (file_at (path_of sight.root (tally_name set.folder user)) sight.files)
      → is_locked set.deny set.interval set.unlock sight.clock.moment failures ≡ false
  unlocked stood fits = unlocked_by (file_at (path_of sight.root (tally_name set.folder user)) sight.files) refl stood fits _ refl

-- the user's file has one more failure
pub record OneMore (set : PlainSettings) (now : ℕ) (failures : List Failure) (after : Option (List ℕ)) : Type 0 where
  pub items : ItemTexts
  pub source : NameSource items
  pub after_is : after ≡ Some (one_more set now items failures)

module _ (ends : EndsLeaveIt) (one : (path : List ℕ) (call : PlainCall) (room : SeenRoom) (held : List NamedData) (sight : Sight)
    → (deed : Deed) × Does path call sight (faillock_plays call room held sight) deed)
    (asks : (players : List Player) (number_of : Code → ℕ → ℕ) (slots : List PlainSlot) (w : PlainWorld) (step : Step)
    → (asked : List AskedLine) × StepAsks players number_of slots w step asked)
    (refuses : LockedIsRefused) (records : RefusedIsRecorded) (leaves : AllByRecursion LeavesUserAndFiles other_plays)
    (players : List Player) (number_of : Code → ℕ → ℕ) (known : AreKnown players)
    (set : PlainSettings) (root user : List ℕ) (slots : List PlainSlot) (m : Met) (r : IsRefused players number_of set root user slots m)
    (failures : List Failure)
    (stood : failures_on_file (file_at (tally_path root set.folder user) m.world.vault.files) ≡ Some failures) where
  abbrev path : List ℕ
  path = tally_path root set.folder user

  abbrev start : State
  start = state_of (tokens_cleared (all_told r.h)).room m.world

  abbrev answering : Answering State
  answering = answers_by players Authenticate r.flags

  abbrev after_first : State
  after_first = (answering r.stack.first 1 start).state

  abbrev after_second : State
  after_second = (answering r.stack.second 2 after_first).state

  abbrev rest : Stack
  rest = line r.stack.third r.stack.rest

  -- the lines that the call ran
  ran : RunsLines players (all_told r.h) m.world (Authenticate, r.flags)
      (stepped players number_of slots m.world m.step).outcome.trail (asks players number_of slots m.world m.step).0
      (stepped players number_of slots m.world m.step).world.vault.files
  ran =
      let t = stepped players number_of slots m.world m.step in
      let a = asks players number_of slots m.world m.step in
      subst (λ (c : AppCall). RunsBy players m.world (Some (opened r.h)) (stack_of c) t.outcome.trail a.0 t.world.vault.files) r.call_is
      (subst (λ (o : Option PlainSlot). RunsBy players m.world o (stack_of m.step.call) t.outcome.trail a.0 t.world.vault.files) r.slot_is a.1)

  returned : Returned players r.flags r.stack.first r.stack.second rest start codes_of.Success r.shows.refusal
  returned =
      by_trace players r.flags r.stack.first r.stack.second rest r.h.stacks ran.lines start ran.last r.stack.first.path r.stack.second.path codes_of.Success
      r.shows.refusal r.shows.others r.stack.stack_is ran.each (ran.recorded ∙ r.shows.begins)
      (subst (λ (s : State). RunOn players ran.lines s ran.last) (begun_room r.h.pending (all_told r.h).room m.world r.begins) ran.ran)

  -- what is as it was after the two lines
  abbrev passwd : List ℕ
  passwd = path_of m.world.process.root (codes "/etc/passwd")

  at_start : Stays user path passwd start start
  at_start = record { user_is = r.user_is; tally = refl; accounts = refl; moment = refl; root = refl; works = r.counted.none_fails }

  is_other : (n : ℕ) (p : Player) → module_of (names_of players) r.stack.second ≡ Some n → slice_get players n ≡ Some p → LeavesUserAndFiles p.plays
  is_other n p is there = by_kind leaves p.plays (r.stack.other p (ap (player_numbered players) is ∙ there)) (known_at players known n p there)

  at_second : Stays user path passwd start after_second
  at_second = past_other user path passwd start players r.flags r.stack.second 2 after_first
      (past_gate user path passwd start players r.flags one r.stack.first 1 start r.stack.usual.gate at_start) is_other

  -- the path of the file, by the root of the process
  abbrev path_at : List ℕ → List ℕ
  path_at top = path_of top (tally_name set.folder user)

  stood_at_start : failures_on_file (file_at (path_at m.world.process.root) m.world.vault.files) ≡ Some failures
  stood_at_start = subst (λ (top : List ℕ). failures_on_file (file_at (path_at top) m.world.vault.files) ≡ Some failures) (sym r.root_is) stood

  fits_at_start : FitsTally (file_at (path_at m.world.process.root) m.world.vault.files)
  fits_at_start = subst (λ (top : List ℕ). FitsTally (file_at (path_at top) m.world.vault.files)) (sym r.root_is) r.fits

  not_locked : IsLocked set (sight_of (scene_in start)) user → ⊥
  not_locked locked =
      let denied = gate_answers refuses players r.flags r.stack.first start user r.stack.usual.gate r.user_is
      (subst (λ (x : PlainSettings). IsLocked x (sight_of (scene_in start)) user) (sym r.stack.preauth_set) locked) in
      let both : codes_of.Success ≡ codes_of.AuthErr = sym returned.first_code ∙ denied in
      cc

  open_at_start : is_locked set.deny set.interval set.unlock m.world.clock.moment failures ≡ false
  open_at_start = unlocked set (sight_of (scene_in start)) user failures r.counted not_locked stood_at_start fits_at_start

  -- the file after the two lines is that before the call
  file_then : file_at (path_at after_second.world.process.root) after_second.world.vault.files ≡ file_at path m.world.vault.files
  file_then = ap (λ (top : List ℕ). file_at (path_at top) after_second.world.vault.files) (at_second.root ∙ r.root_is) ∙ at_second.tally

  can : CanRecord set (sight_of (scene_in after_second)) after_second.room.transaction.items user failures
  can = record {
    counted = record {
      named = r.counted.named;
      passwd = r.counted.passwd;
      passwd_is = ap (λ (top : List ℕ). file_at (path_of top (codes "/etc/passwd")) after_second.world.vault.files) at_second.root
          ∙ at_second.accounts ∙ r.counted.passwd_is;
      passwd_fits = r.counted.passwd_fits;
      entries = r.counted.entries;
      entries_are = r.counted.entries_are;
      entry = r.counted.entry;
      entry_is = r.counted.entry_is;
      lockable = r.counted.lockable;
      folder = r.counted.folder;
      none_fails = at_second.works;
    };
    on_file = ap failures_on_file file_then ∙ stood;
    fits = subst FitsTally (sym file_then) r.fits;
    unlocked = ap (λ (now : ℕ). is_locked set.deny set.interval set.unlock now failures) at_second.moment ∙ open_at_start;
    has_room = subst (λ (now : ℕ). length (one_more set now after_second.room.transaction.items failures) ≤ tally_limit) (sym at_second.moment)
        (r.room failures after_second.room.transaction.items stood);
  }

  pub one_more_there : OneMore set m.world.clock.moment failures
      (file_at (tally_path root set.folder user) (stepped players number_of slots m.world m.step).world.vault.files)
  one_more_there =
      let items = after_second.room.transaction.items in
      let third = r.stack.third in
      let kept = answers_held r.h.authenticated in
      let all = records players r.flags kept r.stack.first r.stack.second third r.stack.rest start user failures r.stack.usual returned.first_code
      (λ e. r.shows.refuses (sym returned.second_code ∙ e)) (ap is_incomplete returned.second_code ∙ r.shows.whole) at_second.user_is
      (subst (λ (x : PlainSettings). CanRecord x (sight_of (scene_in after_second)) items user failures) (sym r.stack.authfail_set) can) in
      let files_at : Stack → List File =
      λ stack. (pass_after kinds.Keep kept answering stack [] start).state.state.world.vault.files in
      let usual : Stack = line r.stack.first (line r.stack.second rest) in
      let there : file_at (path_at after_second.world.process.root) (files_at usual) ≡ Some (one_more set after_second.world.clock.moment items failures) =
      subst (λ (x : PlainSettings). file_at (path_of after_second.world.process.root (tally_name x.folder user)) (files_at usual)
      ≡ Some (one_more x after_second.world.clock.moment items failures)) r.stack.authfail_set all.file_is in
      record {
        items = items;
        source = r.source;
        after_is = ap (file_at path) (files_are ends players number_of slots m.world m.step r.flags r.h r.call_is r.slot_is r.begins ∙ ap files_at r.stack.stack_is)
            ∙ ap (λ (top : List ℕ). file_at (path_at top) (files_at usual)) (sym (at_second.root ∙ r.root_is))
            ∙ there
            ∙ ap (λ (now : ℕ). Some (one_more set now items failures)) at_second.moment;
      }
