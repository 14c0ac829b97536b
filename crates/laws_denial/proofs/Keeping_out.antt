-- A user who is locked is kept out by a stack that has no way round pam_faillock.
use Rattle.std.proofs.Common.{◌≡◌, inl, inr, ℕ, zero, suc, ◌+◌, Bool, true, false, IsTrue, List, [], Option, Some, None, codes, slice_get, refl, sym, ap, ◌∙◌, subst}
use Rattle.pam_base.specs.declared.call.Func.TheVariants.{Authenticate}
use Rattle.pam_base.specs.declared.code.Code.{Code}
use Rattle.pam_base.specs.declared.code.Code.TheVariants as returns
use Rattle.pam_outside.specs.Counts.{next_count}
use Rattle.pam_outside.specs.Files.{File, VaultState, counted, file_at, is_failing}
use Rattle.pam_outside.specs.Paths.{path_of}
use Rattle.pam_outside.specs.Time.{ClockState, after_draws, random_taken}
use Rattle.control_words.specs.declared.nodes.Rule.{Rule}
use Rattle.control_words.specs.Stack.{Stack, none, line, sub, lines_in}
use Rattle.handler_chain.specs.FlatLines.{module_of}
use Rattle.handler_chain.specs.Opinion.{opening}
use Rattle.handler_chain.specs.Pass.{Answering, pass_state}
use Rattle.stack_ways.specs.MayEnd.{CodesOf}
use Rattle.stack_ways.proofs.Realised.{granted_by}
use Rattle.pam_room.specs.Call.{PlainCall}
use Rattle.pam_room.specs.Module.{Played, Player, Plays, SeenRoom, after_calls, failing_of, named_data, played_in, seen_of, sight_of}
use Rattle.pam_room.specs.Serve.{answer_or_incomplete, at_work, played_by, served, served_by}
use Rattle.pam_room.specs.State.{State, scene_in}
use Rattle.dispatch_core.specs.Lines.{answers_by, call_of, names_of}
use Rattle.mod_tally.specs.Faillock.{faillock_plays, tally_name}
use Rattle.mod_tally.specs.Settings.{PlainSettings}
use Rattle.mod_tally.specs.Tally.{is_locked}
use Rattle.laws_lock.specs.Locked.{IsLocked}
use Rattle.laws_denial.specs.Kept_out.{EachLine, IsGate, IsOther, LockedIsKeptOut, Suits}
use Rattle.laws_denial.specs.Leaving.{LeavesUserAndFiles, LeftAlone}
use Rattle.laws_denial.specs.NoWay.{NoWayNoSuccess}
use Rattle.laws_denial.proofs.LockedUserFacts.{locked_is_refused}
use Rattle.laws_denial.proofs.PossibleCodeFacts.{LineGives, all_good}

pub no_way : (State : Type 0) → NoWayNoSuccess State
no_way State possible stack kept answering past s way_less = λ are succeeds.
    let listed = granted_by State possible way_less.counts stack way_less.ways kept answering past s way_less.ways_of are succeeds in
    way_less.none listed.way listed.among listed.opinion

-- ---- a call doesn't change the time, and leaves accesses that don't fail so

draws_later : (n : ℕ) (c : ClockState) → (after_draws n c).moment ≡ c.moment
draws_later zero c = refl
draws_later (suc n) c = draws_later n (random_taken c)

-- whether accesses fail depends on two numbers of the vault alone
same_failing : (k : ℕ) (v w : VaultState) → v.calls ≡ w.calls → v.fails ≡ w.fails → is_failing (after_calls k v) ≡ is_failing (after_calls k w)
same_failing zero v w calls fails = rw (calls, fails) refl
same_failing (suc k) v w calls fails = same_failing k (counted v) (counted w) (ap next_count calls) fails

calls_later : (n : ℕ) (v : VaultState) → ((k : ℕ) → is_failing (after_calls k v) ≡ false) → (k : ℕ) → is_failing (after_calls k (after_calls n v)) ≡ false
calls_later zero v works k = works k
calls_later (suc n) v works k = calls_later n (counted v) (λ j. works (suc j)) k

same_at : (name : List ℕ) (files others : List File) (root other : List ℕ) → files ≡ others → root ≡ other
    → file_at (path_of root name) files ≡ file_at (path_of other name) others
same_at name files others root other f r = rw (f, r) refl

module _ (user : List ℕ) (start : State) where
  -- what stays during a run
  record Stays (s : State) : Type 0 where
    user_is : s.room.transaction.items.user ≡ Some user
    files : s.world.vault.files ≡ start.world.vault.files
    moment : s.world.clock.moment ≡ start.world.clock.moment
    root : s.world.process.root ≡ start.world.process.root
    works : (n : ℕ) → failing_of s.world.vault n ≡ false

  locked_still : (set : PlainSettings) (s : State) → Stays s → IsLocked set (sight_of (scene_in start)) user → IsLocked set (sight_of (scene_in s)) user
  locked_still set s stays l = record {
    named = l.named;
    passwd = l.passwd;
    passwd_is = same_at (codes "/etc/passwd") s.world.vault.files start.world.vault.files s.world.process.root start.world.process.root stays.files stays.root
        ∙ l.passwd_is;
    passwd_fits = l.passwd_fits;
    entries = l.entries;
    entries_are = l.entries_are;
    entry = l.entry;
    entry_is = l.entry_is;
    lockable = l.lockable;
    folder = l.folder;
    tally = l.tally;
    tally_is = same_at (tally_name set.folder user) s.world.vault.files start.world.vault.files s.world.process.root start.world.process.root stays.files
        stays.root ∙ l.tally_is;
    tally_fits = l.tally_fits;
    failures = l.failures;
    failures_are = l.failures_are;
    locked = ap (λ (m : ℕ). is_locked set.deny set.interval set.unlock m l.failures) stays.moment ∙ l.locked;
    none_fails = stays.works;
  }

  -- after a call that left USER and all files
  module _ (players : List Player) where
    after_call : (player : Player) (call : PlainCall) (number : ℕ) (s : State) → Stays s
        → LeftAlone user (sight_of (scene_in (at_work number s))) (played_in player.plays call (scene_in (at_work number s)))
        → Stays (played_by players player call (at_work number s)).state
    unfolding failing_of
    after_call player call number s stays left =
        let now : State = at_work number s in
        let p : Played = played_in player.plays call (scene_in now) in
        record {
          user_is = left.user_is;
          files = left.files_are ∙ stays.files;
          moment = draws_later p.draws s.world.clock ∙ stays.moment;
          root = stays.root;
          works =
              λ n. same_failing n (record (after_calls p.calls s.world.vault) { files = p.files; locks = p.locks s.world.vault.calls s.world.vault.locks })
              (after_calls p.calls s.world.vault) refl refl
              ∙ calls_later p.calls s.world.vault stays.works n;
        }

    abbrev answering : ℕ → Answering State
    answering flags = answers_by players Authenticate flags

    -- ---- another line

    left_by : (flags : ℕ) (rule : Rule) (place : ℕ) (s : State) (number : Option ℕ) → Stays s
        → ((n : ℕ) (player : Player) → number ≡ Some n → slice_get players n ≡ Some player → LeavesUserAndFiles player.plays)
        → Stays (served players number (call_of Authenticate flags rule) s).state
    left_by flags rule place s None stays leaves = stays
    left_by flags rule place s (Some n) stays leaves = by_player (slice_get players n) refl
      where
        by_player : (found : Option Player) → slice_get players n ≡ found → Stays (served_by players found n (call_of Authenticate flags rule) s).state
        by_player None there = stays
        by_player (Some player) there = after_call player (call_of Authenticate flags rule) n s stays
            (leaves n player refl there flags rule.args (seen_of (at_work n s).room) (named_data (at_work n s).room.transaction.datums.live)
            (sight_of (scene_in (at_work n s))) user stays.user_is)

    -- the trace has one more line
    traced : (flags : ℕ) (rule : Rule) (place : ℕ) (s : State)
        → Stays (served players (module_of (names_of players) rule) (call_of Authenticate flags rule) s).state
        → Stays (answering flags rule place s).state
    traced flags rule place s t = record { user_is = t.user_is; files = t.files; moment = t.moment; root = t.root; works = t.works }

    module _ (set : PlainSettings) (locked : IsLocked set (sight_of (scene_in start)) user) (flags : ℕ) (possible : CodesOf) where
      other_gives : (place : ℕ) (rule : Rule) → IsOther players flags possible place rule → LineGives State Stays possible (answering flags) place rule
      other_gives place rule other s stays = record {
        may = other.may s;
        holds = traced flags rule place s (left_by flags rule place s (module_of (names_of players) rule) stays other.leaves);
      }

      -- ---- a line of pam_faillock

      record Shut (place : ℕ) (rule : Rule) (s : State) : Type 0 where
        answer_is : (answering flags rule place s).answer ≡ returns.AuthErr
        holds : Stays (served players (module_of (names_of players) rule) (call_of Authenticate flags rule) s).state

      by_code : (put_off : Bool) (code : Code) → put_off ≡ false → code ≡ returns.AuthErr → answer_or_incomplete put_off code ≡ returns.AuthErr
      by_code true code is same = absurd cc
      by_code false code is same = same

      shut : (place : ℕ) (rule : Rule) → IsGate players set possible place rule → (s : State) → Stays s → Shut place rule s
      shut place rule gate s stays =
          let f = gate.faillock in
          let call : PlainCall = call_of Authenticate flags rule in
          let now : State = at_work f.number s in
          let r =
          locked_is_refused flags rule.args (seen_of now.room) (named_data now.room.transaction.datums.live) (sight_of (scene_in now)) user gate.mode
          stays.user_is
          (subst (λ (x : PlainSettings). IsLocked x (sight_of (scene_in now)) user) (sym gate.settings) (locked_still set s stays locked)) in
          let left : LeftAlone user (sight_of (scene_in now)) (played_in f.player.plays call (scene_in now)) =
          subst (λ (plays : Plays). LeftAlone user (sight_of (scene_in now)) (played_in plays call (scene_in now))) (sym f.plays)
          (record { user_is = ap (λ (room : SeenRoom). room.items.user) r.room_is ∙ stays.user_is; files_are = r.files_are }) in
          let answer : answer_or_incomplete (played_in f.player.plays call (scene_in now)).room.put_off (played_in f.player.plays call (scene_in now)).code ≡
          returns.AuthErr =
          subst (λ (plays : Plays). answer_or_incomplete (played_in plays call (scene_in now)).room.put_off (played_in plays call (scene_in now)).code ≡
          returns.AuthErr) (sym f.plays)
          (by_code (played_in faillock_plays call (scene_in now)).room.put_off (played_in faillock_plays call (scene_in now)).code
          (ap (λ (room : SeenRoom). room.put_off) r.room_is) r.code_is) in
          record {
            answer_is = ap (λ (o : Option ℕ). (served players o call s).answer) f.number_is ∙ ap
                (λ (o : Option Player). (served_by players o f.number call s).answer) f.player_is ∙ answer;
            holds = subst (λ (o : Option ℕ). Stays (served players o call s).state) (sym f.number_is)
                (subst (λ (o : Option Player). Stays (served_by players o f.number call s).state) (sym f.player_is)
                (after_call f.player call f.number s stays left));
          }

      gate_gives : (place : ℕ) (rule : Rule) → IsGate players set possible place rule → LineGives State Stays possible (answering flags) place rule
      gate_gives place rule gate s stays =
          let out = shut place rule gate s stays in
          record {
            may = λ ended. subst (λ (c : Code). IsTrue (possible place c)) (sym out.answer_is) gate.may;
            holds = traced flags rule place s out.holds;
          }

      suits_gives : (place : ℕ) (rule : Rule) → Suits players flags set possible place rule → LineGives State Stays possible (answering flags) place rule
      suits_gives place rule (inl gate) = gate_gives place rule gate
      suits_gives place rule (inr other) = other_gives place rule other

      each_gives : (at : ℕ) (stack : Stack) → EachLine (Suits players flags set possible) at stack
          → EachLine (LineGives State Stays possible (answering flags)) at stack
      each_gives at none each = each
      each_gives at (line rule rest) each = (suits_gives at rule each.0, each_gives (at + 1) rest each.1)
      each_gives at (sub inner rest) each = (each_gives at inner each.0, each_gives (at + lines_in inner) rest each.1)

pub kept_out : LockedIsKeptOut
kept_out players flags set possible stack kept s user each way_less is l =
    let answering = answers_by players Authenticate flags in
    let stays : Stays user s s = record { user_is = is; files = refl; moment = refl; root = refl; works = l.none_fails } in
    let good = all_good State (Stays user s) possible answering kept 0 stack 1 opening opening (pass_state [] [] s)
    (each_gives user s players set l flags possible 1 stack each)
    (record { none_left = refl; may = tt; holds = stays }) in
    no_way State possible stack kept answering [] s way_less good.may
