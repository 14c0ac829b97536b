-- After calls in which a user's password was refused too often, the next one is denied.
use Rattle.std.proofs.Common.{◌≡◌, ◌≢◌, ◌⊎◌, inl, inr, ℕ, ◌+◌, ◌-◌, ◌<◌, ◌≤◌, ◌^◌, ◌==◌, ◌||◌, nat_lt, Bool, true, false, cond, List, [], ◌∷◌, ◌++◌}
use Rattle.std.proofs.Common.{filter, length, Option, Some, None, unwrap_or, refl, sym, ap, ◌∙◌, subst, arith}
use Rattle.std.specs.List.{AllByRecursion}
use Rattle.std.specs.Prelude.{Contains}
use Rattle.std.proofs.lemmas.Bool.{ltb-true, lt-ltb}
use Rattle.std.proofs.lemmas.List.Elements.{Contains-append_cases, Contains-push_cases}
use Rattle.pam_base.specs.declared.code.Code.{Code}
use Rattle.pam_base.specs.declared.call.Step.{Step}
use Rattle.pam_outside.specs.Files.{file_at}
use Rattle.pam_outside.specs.Paths.{path_of}
use Rattle.pam_outside.specs.Time.{time_of}
use Rattle.item_store.specs.Items.{ItemTexts}
use Rattle.service_load.specs.Stacks.{Stacks}
use Rattle.pam_room.specs.Call.{PlainCall}
use Rattle.pam_room.specs.Module.{NamedData, Player, SeenRoom, Sight, sight_of}
use Rattle.pam_room.specs.State.{PlainWorld, scene_in, state_of}
use Rattle.pam_handle.specs.AfterPasses.{EndsLeaveIt}
use Rattle.pam_library.specs.Plays.{AreAskedAt, AskedLine, LinesLead, StepAsks}
use Rattle.pam_library.specs.StackOf.{stack_of}
use Rattle.pam_library.specs.SideBySide.{Met}
use Rattle.pam_library.specs.Slots.{PlainSlot, slot_at}
use Rattle.pam_library.specs.Step.{stepped}
use Rattle.mod_tally.specs.declared.tally.Failure.{Failure}
use Rattle.mod_tally.specs.Faillock.{faillock_plays, is_no_file, new_failure, tally_name}
use Rattle.mod_tally.specs.Recorded.{Deed, Does, Follow, IsWith, Served, deeds_of, failures_by, failures_on_file}
use Rattle.mod_tally.specs.Settings.{PlainSettings}
use Rattle.mod_tally.specs.Tally.{IsFailure, counting, counts, failures_of, is_soon, latest, tally_text}
use Rattle.laws_lock.specs.Denied.{LockedIsDenied}
use Rattle.laws_lock.specs.Failed.{AreEnough, EnoughFailuresLock}
use Rattle.laws_lock.specs.Locked.{LockedIsRefused}
use Rattle.laws_lock.specs.Usual.{RefusedIsRecorded}
use Rattle.laws_denial.specs.Kept_out.{LockedIsNotAuthenticated}
use Rattle.laws_denial.specs.Leaving.{LeavesUserAndFiles}
use Rattle.laws_audit.specs.Others.{AreKnown, IsApart, other_plays, tally_path}
use Rattle.laws_audit.specs.Tallied.{FaillockAloneWrites, IsText}
use Rattle.laws_lockout.specs.Calls.{FindsSuch, OnlyTheseWrite}
use Rattle.laws_lockout.specs.Refused.{AreAttempts, Attempt, RefusedPasswordsLockOut, all_met, another, refused, times_of}
use Rattle.laws_lockout.specs.Within.{AllCountWithin}
use Rattle.laws_lockout.proofs.KeptStackFacts.{AllHave, have_at, step_has}
use Rattle.laws_lockout.proofs.LockoutDenialFacts.{denied}
use Rattle.laws_lockout.proofs.OtherCallFacts.{lines_leave, new_moment}
use Rattle.laws_lockout.proofs.RecentFailureFacts.{Grows, count_by_latest, its_time, one_after_other, recent_recorded, unchanged}
use Rattle.laws_lockout.proofs.RefusedCallFacts.{one_more_there}
use Rattle.laws_lockout.proofs.Within.{by_slot}

-- ---- failures that are written are read

fit_by : (b : Bool) (f : Failure) (fs : List Failure) → IsFailure f → AllByRecursion IsFailure fs → AllByRecursion IsFailure (cond b (f ∷ fs) fs)
fit_by true f fs is all = (is, all)
fit_by false f fs is all = all

fit_filter : (p : Failure → Bool) (fs : List Failure) → AllByRecursion IsFailure fs → AllByRecursion IsFailure (filter p fs)
fit_filter p [] all = tt
fit_filter p (f ∷ fs) all = fit_by (p f) f (filter p fs) all.0 (fit_filter p fs all.1)

fit_append : (fs : List Failure) (f : Failure) → AllByRecursion IsFailure fs → IsFailure f → AllByRecursion IsFailure (fs ++ f ∷ [])
fit_append [] f all is = (is, tt)
fit_append (g ∷ fs) f all is = (all.0, fit_append fs f all.1 is)

module _ (read : (text : List ℕ) (failures : List Failure) → failures_of text ≡ Some failures → AllByRecursion IsFailure failures) where
  fit_on_file : (o : Option (List ℕ)) (failures : List Failure) → failures_on_file o ≡ Some failures → AllByRecursion IsFailure failures
  fit_on_file None failures stood =
      let is : ◌≡◌ {A = Option (List Failure)} (Some []) (Some failures) = stood in
      let none : [] ≡ failures = cc in
      subst (AllByRecursion IsFailure) none tt
  fit_on_file (Some text) failures stood = read text failures stood

-- ---- a lock that lasts after one time lasts after a later one

soon_later : (b : Bool) (unlock t g now : ℕ) → t ≤ g → (b || nat_lt now (t + unlock)) ≡ true → (b || nat_lt now (g + unlock)) ≡ true
soon_later true unlock t g now le is = refl
soon_later false unlock t g now le is =
    let before : now < t + unlock = ltb-true now (t + unlock) is in
    lt-ltb now (g + unlock) (omega (arith, before, le))

-- ---- calls one after another

module _ (one : (path : List ℕ) (call : PlainCall) (room : SeenRoom) (held : List NamedData) (sight : Sight)
    → (deed : Deed) × Does path call sight (faillock_plays call room held sight) deed)
    (all : (path : List ℕ) (interval : ℕ) (calls : List Served) (before after : Option (List ℕ)) (failures : List Failure)
    → Follow path before calls after → AllByRecursion (IsWith interval) (deeds_of calls) → failures_on_file before ≡ Some failures
    → failures_on_file after ≡ Some (failures_by interval (deeds_of calls) failures))
    (tally : (failures : List Failure) → AllByRecursion IsFailure failures → failures_of (tally_text failures) ≡ Some failures)
    (read : (text : List ℕ) (failures : List Failure) → failures_of text ≡ Some failures → AllByRecursion IsFailure failures)
    (writable : (moment : ℕ) (items : ItemTexts) → moment < 10 ^ 13 → IsText items.rhost → IsText items.tty → IsText items.service
    → unwrap_or items.service [] ≢ [] → IsFailure (new_failure moment items))
    (asks : (players : List Player) (number_of : Code → ℕ → ℕ) (slots : List PlainSlot) (w : PlainWorld) (step : Step)
    → (asked : List AskedLine) × StepAsks players number_of slots w step asked)
    (moments : (players : List Player) (number_of : Code → ℕ → ℕ) (slots : List PlainSlot) (w : PlainWorld) (step : Step) (asked : List AskedLine)
    → StepAsks players number_of slots w step asked → AreAskedAt (time_of w.clock) asked)
    (leads : (players : List Player) (number_of : Code → ℕ → ℕ) (slots : List PlainSlot) (w : PlainWorld) (step : Step) (asked : List AskedLine)
    → StepAsks players number_of slots w step asked
    → LinesLead players w.vault.files asked (stepped players number_of slots w step).world.vault.files)
    (alone : (root folder user : List ℕ) → IsApart folder → is_no_file user ≡ false → (players : List Player) → AreKnown players
    → FaillockAloneWrites (tally_path root folder user) players)
    (lock : EnoughFailuresLock) (refuses : LockedIsRefused) (records : RefusedIsRecorded) (leaves : AllByRecursion LeavesUserAndFiles other_plays)
    (denies : LockedIsDenied) (keeps_out : LockedIsNotAuthenticated) (ends : EndsLeaveIt) where
  module _ (players : List Player) (number_of : Code → ℕ → ℕ) (root user : List ℕ) (set : PlainSettings) (last : ℕ)
      (known : AreKnown players) (apart : IsApart set.folder) (named : is_no_file user ≡ false) where
    abbrev path : List ℕ
    path = tally_path root set.folder user

    abbrev Such : Stacks → Type 0
    Such stacks = AllCountWithin players set.interval stacks

    -- what is in the file after some calls
    record Came (failures : List Failure) (attempts : List Attempt) (after : Option (List ℕ)) : Type 0 where
      are : List Failure
      stood : failures_on_file after ≡ Some are
      grows : Grows set.interval last (length (times_of attempts)) failures are
      since : (t : ℕ) → Contains (times_of attempts) t → t ≤ latest are

    one_of_two : (t u : ℕ) (times : List ℕ) → Contains (u ∷ times) t → (u ≡ t) ⊎ Contains times t
    one_of_two t u times c = elim (Contains-append_cases (u ∷ []) times t c) as (λ x. (u ≡ t) ⊎ Contains times t) [
      | inl first ↦ elim (Contains-push_cases [] u t first) as (λ x. (u ≡ t) ⊎ Contains times t) [
        | inl none ↦ absurd (omega (arith, none.1))
        | inr is ↦ inl is
      ]
      | inr more ↦ inr more
    ]

    came : (attempts : List Attempt) (slots : List PlainSlot) (before after : Option (List ℕ)) (failures : List Failure)
        → AreAttempts players number_of set root user slots attempts → AllHave Such slots
        → AllByRecursion (λ (m : Met). FindsSuch Such m.world m.step.call) (all_met attempts)
        → OnlyTheseWrite players number_of path slots before (all_met attempts) after
        → AllByRecursion (λ (m : Met). m.world.clock.moment ≤ last) (all_met attempts)
        → AllByRecursion (λ (time : ℕ). last - time < set.interval) (times_of attempts)
        → failures_on_file before ≡ Some failures → latest failures ≤ last → Came failures attempts after
    came [] slots before after failures are has finds only by_then within stood late = record {
      are = failures;
      stood = ap failures_on_file only ∙ stood;
      grows = unchanged set.interval last failures late;
      since = λ t c. absurd (omega (arith, c.1));
    }
    came (refused m ∷ attempts) slots before after failures are has finds only by_then within stood late =
        let s = stepped players number_of slots m.world m.step in
        let now : ℕ = m.world.clock.moment in
        let r = are.0 in
        let there : failures_on_file (file_at path m.world.vault.files) ≡ Some failures = ap failures_on_file only.0 ∙ stood in
        let more = one_more_there ends one asks refuses records leaves players number_of known set root user slots m r failures there in
        let f : Failure = new_failure now more.items in
        let time : f.moment ≡ now = new_moment now more.items in
        let next : List Failure = counting set.interval (failures ++ f ∷ []) in
        let fit : AllByRecursion IsFailure next =
        fit_filter (counts set.interval (latest (failures ++ f ∷ []))) (failures ++ f ∷ []) (fit_append failures f (fit_on_file read before failures stood)
        (writable now more.items r.moment more.source.rhost more.source.tty more.source.service more.source.named)) in
        let in_time : f.moment ≤ last = subst (λ (t : ℕ). t ≤ last) (sym time) by_then.0 in
        let near : last - f.moment < set.interval = subst (λ (t : ℕ). last - t < set.interval) (sym time) within.0 in
        let grown : Grows set.interval last 1 failures next = recent_recorded set.interval last failures f late in_time near in
        let since_now : now ≤ latest next =
        subst (λ (t : ℕ). t ≤ latest next) time (its_time set.interval last failures f late in_time near) in
        let rest : Came next attempts after =
        came attempts s.slots (file_at path s.world.vault.files) after next are.1 (step_has ends players number_of Such slots m.world m.step has finds.0) finds.1
        only.1 by_then.1 within.1 (ap failures_on_file more.after_is ∙ tally next fit) grown.late in
        let both = one_after_other set.interval last 1 (length (times_of attempts)) failures next rest.are grown rest.grows in
        record {
          are = rest.are;
          stood = rest.stood;
          grows = record { count = omega (arith, both.count); late = both.late; stays = both.stays };
          since = λ t c. elim (one_of_two t now (times_of attempts) c) as (λ x. t ≤ latest rest.are) [
            | inl is ↦ subst (λ (u : ℕ). u ≤ latest rest.are) is (rest.grows.stays now within.0 since_now)
            | inr later ↦ rest.since t later
          ];
        }
    came (another m ∷ attempts) slots before after failures are has finds only by_then within stood late =
        let s = stepped players number_of slots m.world m.step in
        let a = asks players number_of slots m.world m.step in
        let there : failures_on_file (file_at path m.world.vault.files) ≡ Some failures = ap failures_on_file only.0 ∙ stood in
        let here = lines_leave path players (alone root set.folder user apart named players known) one all writable set.interval last (time_of m.world.clock)
        a.0 (are.0 a.0 a.1)
        (by_slot players set.interval m.world (slot_at slots m.step.number) (stack_of m.step.call) _ a.0 _ (have_at Such slots m.step.number has) a.1)
        (moments players number_of slots m.world m.step a.0 a.1) by_then.0 s.world.vault.files m.world.vault.files failures
        (leads players number_of slots m.world m.step a.0 a.1) there late in
        let rest : Came here.are attempts after =
        came attempts s.slots (file_at path s.world.vault.files) after here.are are.1 (step_has ends players number_of Such slots m.world m.step has finds.0) finds.1
        only.1 by_then.1 within here.stood here.grows.late in
        let both = one_after_other set.interval last 0 (length (times_of attempts)) failures here.are rest.are here.grows rest.grows in
        record {
          are = rest.are;
          stood = rest.stood;
          grows = record { count = omega (arith, both.count); late = both.late; stays = both.stays };
          since = rest.since;
        }

    are_enough : (attempts : List Attempt) (failures : List Failure) (after : Option (List ℕ)) (time now : ℕ) (c : Came failures attempts after)
        → set.deny ≤ length (times_of attempts) → Contains (times_of attempts) time → is_soon set.unlock time now ≡ true → AreEnough set now c.are
    are_enough attempts failures after time now c enough some soon =
        let counted = count_by_latest set.interval last c.are c.grows.late in
        record {
          some = omega (arith, c.grows.count, counted, some.1);
          enough = omega (arith, c.grows.count, counted, enough);
          soon = soon_later (set.unlock == 0) set.unlock time (latest c.are) now (c.since time some) soon;
        }

  pub refused_lock_out : RefusedPasswordsLockOut
  refused_lock_out players number_of slots attempts root user set last time before after failures later number h w known apart named configured only stood late
      are many among next soon =
      let sight = sight_of (scene_in (state_of h.room w)) in
      let c = came players number_of root user set last known apart named attempts slots before after failures are configured.at_first configured.starts only
      many.by_then many.within stood late in
      let enough = are_enough players number_of root user set last known apart named attempts failures after time w.clock.moment c many.enough among soon in
      let locked = lock [] after after c.are set sight user refl tt c.stood enough next.counted
      (ap (λ (r : List ℕ). file_at (path_of r (tally_name set.folder user)) w.vault.files) next.root_is ∙ next.found) next.fits in
      denied ends players number_of denies keeps_out set h w user next.begins next.user_is locked later number next.slot_is
