-- What the first two lines of the usual stack leave as it was, and what the trace says of them.
use Rattle.std.proofs.Common.{◌≡◌, inl, inr, ℕ, zero, suc, ◌+◌, ◌≤◌, false, List, [], ◌∷◌, map, Option, Some, None, Result, Ok, codes, slice_get}
use Rattle.std.proofs.Common.{refl, sym, ap, ◌∙◌, subst, arith}
use Rattle.std.specs.List.{AllByRecursion}
use Rattle.pam_base.specs.declared.call.Func.{Func}
use Rattle.pam_base.specs.declared.call.Func.TheVariants.{Authenticate}
use Rattle.pam_base.specs.declared.code.Code.{Code}
use Rattle.pam_base.specs.declared.code.Code.TheVariants as returns
use Rattle.pam_outside.specs.Counts.{next_count}
use Rattle.pam_outside.specs.Files.{VaultState, counted, file_at, is_failing}
use Rattle.pam_outside.specs.Time.{ClockState, after_draws, random_taken}
use Rattle.control_words.specs.declared.nodes.Rule.{Rule}
use Rattle.control_words.specs.Stack.{Stack, none, line, sub, lines_in}
use Rattle.service_load.specs.Stacks.{Stacks}
use Rattle.handler_chain.specs.FlatLines.{module_of}
use Rattle.handler_chain.specs.Pass.{Answered, Answering}
use Rattle.pam_room.specs.Call.{PlainCall}
use Rattle.pam_room.specs.Module.{NamedData, Played, Player, Plays, SeenRoom, Sight, after_calls, failing_of, named_data, played_in, seen_of}
use Rattle.pam_room.specs.Module.{sight_of}
use Rattle.pam_room.specs.Say.{user_or_ask}
use Rattle.pam_room.specs.Serve.{answer_or_incomplete, at_work, played_by, served, served_by}
use Rattle.pam_room.specs.State.{State, scene_in}
use Rattle.pam_room.specs.declared.visits.Visit.{Visit}
use Rattle.dispatch_core.specs.Lines.{answers_by, call_of, names_of}
use Rattle.pam_library.specs.Plays.{IsLineOf, IsRuleAt, LineRun, RunOn, run_in, visit_of}
use Rattle.mod_tally.specs.declared.settings.Task.{Task}
use Rattle.mod_tally.specs.declared.settings.Task.TheVariants as tasks
use Rattle.mod_tally.specs.Faillock.{faillock_plays, given_mode}
use Rattle.mod_tally.specs.Recorded.{Deed, Does, cleared, left, recorded}
use Rattle.mod_tally.specs.Settings.{settings_of, task_among, task_word}
use Rattle.laws_lock.specs.Denied.{IsFaillock, IsGate}
use Rattle.laws_lock.specs.Locked.{IsLocked, LockedIsRefused}
use Rattle.laws_denial.specs.Leaving.{LeavesUserAndFiles}
use Rattle.laws_lockout.proofs.OwnFileFacts.{leaves}

-- ---- a call doesn't change the time, and leaves accesses that don't fail so

draws_later : (n : ℕ) (c : ClockState) → (after_draws n c).moment ≡ c.moment
draws_later zero c = refl
draws_later (suc n) c = draws_later n (random_taken c)

same_failing : (k : ℕ) (v w : VaultState) → v.calls ≡ w.calls → v.fails ≡ w.fails → is_failing (after_calls k v) ≡ is_failing (after_calls k w)
same_failing zero v w calls fails = rw (calls, fails) refl
same_failing (suc k) v w calls fails = same_failing k (counted v) (counted w) (ap next_count calls) fails

calls_later : (n : ℕ) (v : VaultState) → ((k : ℕ) → is_failing (after_calls k v) ≡ false) → (k : ℕ) → is_failing (after_calls k (after_calls n v)) ≡ false
calls_later zero v works k = works k
calls_later (suc n) v works k = calls_later n (counted v) (λ j. works (suc j)) k

-- ---- a line of pam_faillock with `preauth` leaves all files

one_task : (a b : Task) (mode : Option Task) → mode ≡ Some a → given_mode mode ≡ Ok b → a ≡ b
one_task a b mode is task =
    let both : ◌≡◌ {A = Result Task Code} (Ok a) (Ok b) = ap given_mode (sym is) ∙ task in
    cc

module _ (one : (path : List ℕ) (call : PlainCall) (room : SeenRoom) (held : List NamedData) (sight : Sight)
    → (deed : Deed) × Does path call sight (faillock_plays call room held sight) deed)
    (path : List ℕ) (flags : ℕ) (rule : Rule) (preauth : task_among rule.args ≡ task_word (codes "preauth"))
    (room : SeenRoom) (held : List NamedData) (sight : Sight) where
  abbrev asked_call : PlainCall
  asked_call = call_of Authenticate flags rule

  abbrev its_play : Played
  its_play = faillock_plays asked_call room held sight

  by_deed : (deed : Deed) → Does path asked_call sight its_play deed → file_at path its_play.files ≡ file_at path sight.files
  by_deed left does = does
  by_deed (recorded interval failure) does =
      let same : tasks.Preauth ≡ tasks.AuthFail = one_task tasks.Preauth tasks.AuthFail (task_among rule.args) preauth does.task in
      absurd cc
  by_deed cleared does = elim does.allowed as (λ x. file_at path its_play.files ≡ file_at path sight.files) [
    | inl task ↦ absurd (let same : tasks.Preauth ≡ tasks.Clear = one_task tasks.Preauth tasks.Clear (task_among rule.args) preauth task in cc)
    | inr both ↦ absurd (let same : tasks.Preauth ≡ tasks.AuthSucc = one_task tasks.Preauth tasks.AuthSucc (task_among rule.args) preauth both.0 in cc)
  ]

  pub preauth_leaves : file_at path its_play.files ≡ file_at path sight.files
  preauth_leaves = let did = one path asked_call room held sight in by_deed did.0 did.1

  -- and the user's name, if it is set
  pub user_stays : (user : List ℕ) → room.items.user ≡ Some user → its_play.room.items.user ≡ Some user
  user_stays user is = elim (leaves path asked_call room held sight).room_is as (λ x. its_play.room.items.user ≡ Some user) [
    | inl same ↦ ap (λ (r : SeenRoom). r.items.user) same ∙ is
    | inr same ↦ ap (λ (r : SeenRoom). r.items.user) (same ∙ ap (λ (o : Option (List ℕ)). (user_or_ask o room).room) is) ∙ is
  ]

-- ---- what stays during a run

module _ (user path passwd : List ℕ) (start : State) where
  pub record Stays (s : State) : Type 0 where
    pub user_is : s.room.transaction.items.user ≡ Some user
    pub tally : file_at path s.world.vault.files ≡ file_at path start.world.vault.files
    pub accounts : file_at passwd s.world.vault.files ≡ file_at passwd start.world.vault.files
    pub moment : s.world.clock.moment ≡ start.world.clock.moment
    pub root : s.world.process.root ≡ start.world.process.root
    pub works : (n : ℕ) → failing_of s.world.vault n ≡ false

  -- what a call leaves
  record Left (s : State) (p : Played) : Type 0 where
    user_is : p.room.items.user ≡ Some user
    tally : file_at path p.files ≡ file_at path s.world.vault.files
    accounts : file_at passwd p.files ≡ file_at passwd s.world.vault.files

  module _ (players : List Player) (flags : ℕ) where
    abbrev answering : Answering State
    answering = answers_by players Authenticate flags

    after_call : (player : Player) (call : PlainCall) (number : ℕ) (s : State) → Stays s
        → Left s (played_in player.plays call (scene_in (at_work number s))) → Stays (played_by players player call (at_work number s)).state
    unfolding failing_of
    after_call player call number s stays l =
        let p : Played = played_in player.plays call (scene_in (at_work number s)) in
        record {
          user_is = l.user_is;
          tally = l.tally ∙ stays.tally;
          accounts = l.accounts ∙ stays.accounts;
          moment = draws_later p.draws s.world.clock ∙ stays.moment;
          root = stays.root;
          works =
              λ n. same_failing n (record (after_calls p.calls s.world.vault) { files = p.files; locks = p.locks s.world.vault.calls s.world.vault.locks })
              (after_calls p.calls s.world.vault) refl refl
              ∙ calls_later p.calls s.world.vault stays.works n;
        }

    -- the trace has one more line
    traced : (rule : Rule) (place : ℕ) (s : State) → Stays (served players (module_of (names_of players) rule) (call_of Authenticate flags rule) s).state
        → Stays (answering rule place s).state
    traced rule place s t = record { user_is = t.user_is; tally = t.tally; accounts = t.accounts; moment = t.moment; root = t.root; works = t.works }

    -- a line of another module
    left_by : (rule : Rule) (s : State) (number : Option ℕ) → Stays s
        → ((n : ℕ) (player : Player) → number ≡ Some n → slice_get players n ≡ Some player → LeavesUserAndFiles player.plays)
        → Stays (served players number (call_of Authenticate flags rule) s).state
    left_by rule s None stays leaves = stays
    left_by rule s (Some n) stays leaves = by_player (slice_get players n) refl
      where
        by_player : (found : Option Player) → slice_get players n ≡ found → Stays (served_by players found n (call_of Authenticate flags rule) s).state
        by_player None there = stays
        by_player (Some player) there =
            let l = leaves n player refl there flags rule.args (seen_of (at_work n s).room) (named_data (at_work n s).room.transaction.datums.live)
            (sight_of (scene_in (at_work n s))) user stays.user_is in
            after_call player (call_of Authenticate flags rule) n s stays
            (record { user_is = l.user_is; tally = ap (file_at path) l.files_are; accounts = ap (file_at passwd) l.files_are })

    pub past_other : (rule : Rule) (place : ℕ) (s : State) → Stays s
        → ((n : ℕ) (player : Player) → module_of (names_of players) rule ≡ Some n → slice_get players n ≡ Some player → LeavesUserAndFiles player.plays)
        → Stays (answering rule place s).state
    past_other rule place s stays leaves = traced rule place s (left_by rule s (module_of (names_of players) rule) stays leaves)

    -- a line of pam_faillock with `preauth`
    pub past_gate : ((path : List ℕ) (call : PlainCall) (room : SeenRoom) (held : List NamedData) (sight : Sight)
        → (deed : Deed) × Does path call sight (faillock_plays call room held sight) deed)
        → (rule : Rule) (place : ℕ) (s : State) → IsGate players rule → Stays s → Stays (answering rule place s).state
    past_gate one rule place s gate stays =
        let f : IsFaillock players rule = gate.faillock in
        let call : PlainCall = call_of Authenticate flags rule in
        let now : State = at_work f.number s in
        let room : SeenRoom = seen_of now.room in
        let held : List NamedData = named_data now.room.transaction.datums.live in
        let sight : Sight = sight_of (scene_in now) in
        let here : Left s (played_in faillock_plays call (scene_in now)) = record {
          user_is = user_stays one path flags rule gate.preauth room held sight user stays.user_is;
          tally = preauth_leaves one path flags rule gate.preauth room held sight;
          accounts = preauth_leaves one passwd flags rule gate.preauth room held sight;
        } in
        traced rule place s
        (subst (λ (o : Option ℕ). Stays (served players o call s).state) (sym f.number_is)
        (subst (λ (o : Option Player). Stays (served_by players o f.number call s).state) (sym f.player_is)
        (after_call f.player call f.number s stays
        (subst (λ (plays : Plays). Left s (played_in plays call (scene_in now))) (sym f.plays) here))))

-- ---- the gate denies a user who is locked

pub gate_answers : LockedIsRefused → (players : List Player) (flags : ℕ) (rule : Rule) (s : State) (user : List ℕ) → IsGate players rule
    → s.room.transaction.items.user ≡ Some user → IsLocked (settings_of rule.args) (sight_of (scene_in s)) user
    → (answers_by players Authenticate flags rule 1 s).answer ≡ returns.AuthErr
gate_answers refuses players flags rule s user gate is l =
    let f : IsFaillock players rule = gate.faillock in
    let call : PlainCall = call_of Authenticate flags rule in
    let now : State = at_work f.number s in
    let p = refuses call (seen_of now.room) (named_data now.room.transaction.datums.live) (sight_of (scene_in now)) user refl gate.preauth is l in
    ap (λ (o : Option ℕ). (served players o call s).answer) f.number_is
    ∙ ap (λ (o : Option Player). (served_by players o f.number call s).answer) f.player_is
    ∙ ap (λ (plays : Plays). answer_or_incomplete (played_in plays call (scene_in now)).room.put_off (played_in plays call (scene_in now)).code) f.plays
    ∙ ap (λ (q : Played). answer_or_incomplete q.room.put_off q.code) p

-- ---- the trace

past_place : (rule : Rule) (place : ℕ) (stack : Stack) (at : ℕ) → IsRuleAt rule place stack at → at ≤ place
past_place rule place none at stands = absurd stands
past_place rule place (line r rest) at (inl is) = omega (arith, is.1)
past_place rule place (line r rest) at (inr more) = omega (arith, past_place rule place rest (at + 1) more)
past_place rule place (sub inner rest) at (inl more) = past_place rule place inner at more
past_place rule place (sub inner rest) at (inr more) = omega (arith, past_place rule place rest (at + lines_in inner) more)

module _ (players : List Player) (flags : ℕ) (first second : Rule) (rest : Stack) where
  first_is : (rule : Rule) (place : ℕ) → place ≡ 1 → IsRuleAt rule place (line first (line second rest)) 1 → rule ≡ first
  first_is rule place e (inl is) = is.0
  first_is rule place e (inr more) = absurd (omega (arith, e, past_place rule place (line second rest) 2 more))

  second_is : (rule : Rule) (place : ℕ) → place ≡ 2 → IsRuleAt rule place (line first (line second rest)) 1 → rule ≡ second
  second_is rule place e (inl is) = absurd (omega (arith, e, is.1))
  second_is rule place e (inr (inl is)) = is.0
  second_is rule place e (inr (inr more)) = absurd (omega (arith, e, past_place rule place rest 3 more))

  run_is : (l : LineRun) (rule : Rule) (place : ℕ) (s : State) → l.func ≡ Authenticate → l.flags ≡ flags → l.rule ≡ rule → l.visit.place ≡ place
      → run_in players l s ≡ answers_by players Authenticate flags rule place s
  run_is l rule place s f g r p =
      ap (λ (x : Func). answers_by players x l.flags l.rule l.visit.place s) f
      ∙ ap (λ (x : ℕ). answers_by players Authenticate x l.rule l.visit.place s) g
      ∙ ap (λ (x : Rule). answers_by players Authenticate flags x l.visit.place s) r
      ∙ ap (λ (x : ℕ). answers_by players Authenticate flags rule x s) p

  -- the first two lines returned these codes
  pub record Returned (s : State) (one two : Code) : Type 0 where
    pub first_code : (answers_by players Authenticate flags first 1 s).answer ≡ one
    pub second_code : (answers_by players Authenticate flags second 2 (answers_by players Authenticate flags first 1 s).state).answer ≡ two

  abbrev run_call : Func × ℕ
  run_call = (Authenticate, flags)

  pub by_trace : (stacks : Stacks) (lines : List LineRun) (s last : State) (p q : List ℕ) (one two : Code) (others : List Visit)
      → stacks.auth ≡ line first (line second rest) → AllByRecursion (IsLineOf run_call stacks) lines
      → map (λ (l : LineRun). l.visit) lines ≡ visit_of 1 p one ∷ visit_of 2 q two ∷ others → RunOn players lines s last → Returned s one two
  by_trace stacks [] s last p q one two others stack each e ran = absurd cc
  by_trace stacks (l ∷ []) s last p q one two others stack each e ran = absurd cc
  by_trace stacks (l ∷ k ∷ ls) s last p q one two others stack each e ran =
      let l_is : l.visit ≡ visit_of 1 p one = cc in
      let k_is : k.visit ≡ visit_of 2 q two = cc in
      let here = each.0 in
      let next = each.1.0 in
      let l_place : l.visit.place ≡ 1 = ap (λ (v : Visit). v.place) l_is in
      let k_place : k.visit.place ≡ 2 = ap (λ (v : Visit). v.place) k_is in
      let l_rule : l.rule ≡ first =
      first_is l.rule l.visit.place l_place (subst (λ (st : Stack). IsRuleAt l.rule l.visit.place st 1) stack here.stands) in
      let k_rule : k.rule ≡ second =
      second_is k.rule k.visit.place k_place (subst (λ (st : Stack). IsRuleAt k.rule k.visit.place st 1) stack next.stands) in
      let l_run : run_in players l s ≡ answers_by players Authenticate flags first 1 s =
      run_is l first 1 s here.func_is here.flags_are l_rule l_place in
      let k_run : run_in players k (run_in players l s).state ≡ answers_by players Authenticate flags second 2 (run_in players l s).state =
      run_is k second 2 (run_in players l s).state next.func_is next.flags_are k_rule k_place in
      record {
        first_code = ap (λ (a : Answered State). a.answer) (sym l_run) ∙ ap (λ (v : Visit). v.answer) (sym ran.0 ∙ l_is);
        second_code = ap (λ (a : Answered State). (answers_by players Authenticate flags second 2 a.state).answer) (sym l_run)
            ∙ ap (λ (a : Answered State). a.answer) (sym k_run) ∙ ap (λ (v : Visit). v.answer) (sym ran.1.0 ∙ k_is);
      }
