-- A user whom wrong passwords lock is denied by the next pam_authenticate(3).
use Rattle.std.proofs.Common.{◌≡◌, ◌≢◌, ◌<◌, ◌^◌, ℕ, false, List, [], Option, Some, None, unwrap_or, refl, sym, ap, ◌∙◌, subst}
use Rattle.std.specs.List.{AllByRecursion}
use Rattle.pam_base.specs.declared.code.Code.{Code}
use Rattle.pam_base.specs.declared.code.Code.TheVariants as codes
use Rattle.pam_base.specs.declared.call.AppCall.TheVariants as calls
use Rattle.pam_base.specs.declared.call.Func.TheVariants.{Authenticate}
use Rattle.pam_base.specs.declared.call.Step.{Step}
use Rattle.pam_outside.specs.Files.{file_at}
use Rattle.pam_outside.specs.Paths.{path_of}
use Rattle.control_words.specs.Stack.{Stack}
use Rattle.handler_chain.specs.declared.pass_kind.PassKind.TheVariants as kinds
use Rattle.handler_chain.specs.Pass.{pass_after}
use Rattle.handler_chain.specs.Walk.{code_of}
use Rattle.item_store.specs.Items.{ItemTexts}
use Rattle.pam_room.specs.Call.{PlainCall}
use Rattle.pam_room.specs.Module.{NamedData, Player, SeenRoom, Sight, sight_of}
use Rattle.pam_room.specs.State.{PlainWorld, scene_in, state_of}
use Rattle.dispatch_core.specs.Calls.{answers_held}
use Rattle.dispatch_core.specs.Lines.{answers_by}
use Rattle.dispatch_core.specs.Pending.{Pending}
use Rattle.pam_handle.specs.AfterPasses.{EndsLeaveIt}
use Rattle.pam_handle.specs.Call.{tokens_cleared}
use Rattle.pam_handle.specs.Handle.{PlainHandle}
use Rattle.pam_handle.specs.Items.{all_told}
use Rattle.pam_handle.specs.StackCalls.{passes_of, stack_call}
use Rattle.pam_library.specs.declared.outcome.Answer.TheVariants as answers
use Rattle.pam_library.specs.Plays.{AskedLine, LinesLead, StepAsks}
use Rattle.pam_library.specs.SlotStep.{SlotStepped, filed_in, other_pending, told_by, unless_pending}
use Rattle.pam_library.specs.Slots.{PlainSlot, opened, slot_at}
use Rattle.pam_library.specs.Step.{stepped, stepped_at}
use Rattle.mod_tally.specs.Faillock.{faillock_plays, is_no_file, new_failure, tally_name}
use Rattle.mod_tally.specs.Recorded.{Deed, Does, Follow, IsWith, deeds_of}
use Rattle.mod_tally.specs.Settings.{PlainSettings}
use Rattle.mod_tally.specs.Tally.{IsFailure}
use Rattle.laws_lock.specs.Denied.{LockedIsDenied}
use Rattle.laws_lock.specs.Failed.{EnoughFailuresLock}
use Rattle.laws_lock.specs.Locked.{IsLocked}
use Rattle.laws_denial.specs.Kept_out.{LockedIsNotAuthenticated}
use Rattle.laws_audit.specs.Others.{AreKnown, IsApart, tally_path}
use Rattle.laws_audit.specs.Tallied.{FaillockAloneWrites, IsText, calls_in}
use Rattle.laws_lockout.specs.Lockout.{BeginsWithGate, IsDenied, WrongPasswordsLockOut, answer_in}
use Rattle.laws_lockout.proofs.UserFileFacts.{calls_lead, can_record}
use Rattle.laws_lockout.proofs.Within.{steps_within}

same_code : (a b : Code) → answers.Code a ≡ answers.Code b → a ≡ b
same_code a b e = cc

-- ---- pam_authenticate(3) in a slot

module _ (ends : EndsLeaveIt) (players : List Player) (number_of : Code → ℕ → ℕ) where
  past_end : (pending : Option Pending) (slot : PlainSlot) (w : PlainWorld) (s : SlotStepped) → pending ≡ None
      → (unless_pending (other_pending pending Authenticate) slot w s).outcome.answer ≡ s.outcome.answer
  past_end None slot w s none = refl
  past_end (Some p) slot w s none = absurd cc

  in_slot : (slots : List PlainSlot) (w : PlainWorld) (number flags : ℕ) (found : Option PlainSlot) (h : PlainHandle) → found ≡ Some (opened h)
      → h.pending ≡ None
      → (stepped_at players number_of slots w number (calls.Authenticate flags) found).outcome.answer
      ≡ answers.Code (stack_call players number_of Authenticate flags (all_told h) w).code
  in_slot slots w number flags found h there none =
      let c = stack_call players number_of Authenticate flags (all_told h) w in
      subst (λ (o : Option PlainSlot). (stepped_at players number_of slots w number (calls.Authenticate flags) o).outcome.answer ≡ answers.Code c.code)
      (sym there) (past_end h.pending (opened (all_told h)) w (told_by (filed_in w) (answers.Code c.code) c) none)

  pub answer_is : (slots : List PlainSlot) (w : PlainWorld) (number flags : ℕ) (h : PlainHandle) → slot_at slots number ≡ Some (opened h)
      → h.pending ≡ None
      → answer_in players number_of slots w number flags ≡ answers.Code (stack_call players number_of Authenticate flags (all_told h) w).code
  unfolding stepped
  answer_is slots w number flags h there none = in_slot slots w number flags (slot_at slots number) h there none

  -- ---- the call itself

  -- the code of a call that begins is that of its pass
  code_is : (flags : ℕ) (h : PlainHandle) (w : PlainWorld) → h.pending ≡ None
      → (stack_call players number_of Authenticate flags h w).code
      ≡ code_of (pass_after kinds.Keep (answers_held h.authenticated) (answers_by players Authenticate flags) h.stacks.auth []
      (state_of (tokens_cleared h).room w))
  code_is flags h w none =
      let begins : PlainHandle = record h { pending = None } in
      subst (λ (x : PlainHandle). (stack_call players number_of Authenticate flags x w).code
      ≡ code_of (pass_after kinds.Keep (answers_held x.authenticated) (answers_by players Authenticate flags) x.stacks.auth []
      (state_of (tokens_cleared x).room w)))
      (sym (ap (λ (p : Option Pending). record h { pending = p }) none))
      (ends number_of Authenticate (passes_of players Authenticate flags begins w) begins).code

  module _ (refuses : LockedIsDenied) (keeps_out : LockedIsNotAuthenticated) (set : PlainSettings) (h : PlainHandle) (w : PlainWorld) (user : List ℕ)
      (none : h.pending ≡ None) (is : h.room.transaction.items.user ≡ Some user) (locked : IsLocked set (sight_of (scene_in (state_of h.room w))) user) where
    refused : (flags : ℕ) → BeginsWithGate players set h.stacks.auth → (stack_call players number_of Authenticate flags (all_told h) w).code ≡ codes.AuthErr
    refused flags first =
        let cleared : PlainHandle = tokens_cleared (all_told h) in
        let d = refuses players flags (answers_held h.authenticated) first.rule first.rest (state_of cleared.room w) user first.gate is
        (subst (λ (s : PlainSettings). IsLocked s (sight_of (scene_in (state_of cleared.room w))) user) (sym first.settings) locked) in
        code_is flags (all_told h) w none
        ∙ ap (λ (stack : Stack). code_of (pass_after kinds.Keep (answers_held h.authenticated) (answers_by players Authenticate flags) stack []
        (state_of cleared.room w))) first.stack_is
        ∙ d.code_is

    pub denied : (slots : List PlainSlot) (number : ℕ) → slot_at slots number ≡ Some (opened h) → IsDenied players number_of slots number h w set
    denied slots number there = record {
      at_once = λ flags first. answer_is slots w number flags h there none ∙ ap answers.Code (refused flags first);
      in_the_end = λ flags possible each way_less succeeds.
          keeps_out players number_of flags set possible (all_told h) w user none each way_less is locked
          (same_code (stack_call players number_of Authenticate flags (all_told h) w).code codes.Success
          (sym (answer_is slots w number flags h there none) ∙ succeeds));
    }

-- ---- all calls

module _ (one : (path : List ℕ) (call : PlainCall) (room : SeenRoom) (held : List NamedData) (sight : Sight)
    → (deed : Deed) × Does path call sight (faillock_plays call room held sight) deed)
    (writable : (moment : ℕ) (items : ItemTexts) → moment < 10 ^ 13 → IsText items.rhost → IsText items.tty → IsText items.service
    → unwrap_or items.service [] ≢ [] → IsFailure (new_failure moment items))
    (asks : (players : List Player) (number_of : Code → ℕ → ℕ) (slots : List PlainSlot) (w : PlainWorld) (step : Step)
    → (asked : List AskedLine) × StepAsks players number_of slots w step asked)
    (leads : (players : List Player) (number_of : Code → ℕ → ℕ) (slots : List PlainSlot) (w : PlainWorld) (step : Step) (asked : List AskedLine)
    → StepAsks players number_of slots w step asked
    → LinesLead players w.vault.files asked (stepped players number_of slots w step).world.vault.files)
    (alone : (root folder user : List ℕ) → IsApart folder → is_no_file user ≡ false → (players : List Player) → AreKnown players
    → FaillockAloneWrites (tally_path root folder user) players)
    (lock : EnoughFailuresLock) (refuses : LockedIsDenied) (keeps_out : LockedIsNotAuthenticated) (ends : EndsLeaveIt) where
  pub lock_out : WrongPasswordsLockOut
  lock_out players number_of slots steps root folder user interval before after known apart named configured only =
      let path = tally_path root folder user in
      let by = calls_lead path players (alone root folder user apart named players known) one writable number_of asks leads steps slots before after only in
      let within = steps_within players interval ends number_of steps slots by.asked configured.at_first configured.starts by.asked_are in
      record {
        asked = by.asked;
        asked_are = by.asked_are;
        lines = by.led.lines;
        lines_are = by.led.lines_are;
        each = by.led.each;
        follow = by.led.follow;
        denied = λ failures set later number h w can stood interval_is directory_is enough next.
            let sight = sight_of (scene_in (state_of h.room w)) in
            let there : path ≡ path_of w.process.root (tally_name set.folder user) =
            ap (λ (r : List ℕ). path_of r (tally_name folder user)) (sym next.root_is)
            ∙ ap (λ (f : List ℕ). path_of w.process.root (tally_name f user)) (sym directory_is) in
            let written = by.led.with_one interval (can_record players interval by.asked within can) in
            let locked = lock (calls_in by.led.lines) before after failures set sight user
            (subst (λ (p : List ℕ). Follow p before (calls_in by.led.lines) after) there by.led.follow)
            (subst (λ (i : ℕ). AllByRecursion (IsWith i) (deeds_of (calls_in by.led.lines))) (sym interval_is) written)
            stood enough next.counted
            (ap (λ (r : List ℕ). file_at (path_of r (tally_name set.folder user)) w.vault.files) next.root_is ∙ next.found)
            next.fits in
            denied ends players number_of refuses keeps_out set h w user next.begins next.user_is locked later number next.slot_is;
      }
