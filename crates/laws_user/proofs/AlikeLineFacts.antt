-- One line over files that look the same to the user.
use Rattle.std.proofs.Common.{◌≡◌, ◌≢◌, ℕ, zero, suc, ◌+◌, Bool, List, Option, Some, None, codes, slice_get, refl, sym, ap, ◌∙◌, subst}
use Rattle.pam_base.specs.declared.call.Func.{Func}
use Rattle.pam_outside.specs.Files.{File, VaultState, counted, is_failing}
use Rattle.pam_outside.specs.Paths.{path_of}
use Rattle.pam_outside.specs.Time.{ClockState, after_draws, random_taken}
use Rattle.control_words.specs.declared.nodes.Rule.{Rule}
use Rattle.control_words.specs.Stack.{Stack, none, line, sub, lines_in}
use Rattle.handler_chain.specs.FlatLines.{module_of}
use Rattle.handler_chain.specs.Pass.{Answering}
use Rattle.pam_room.specs.Call.{PlainCall}
use Rattle.pam_room.specs.Module.{Played, Player, Sight, after_calls, failing_of, named_data, notes_of, played_in, seen_of, sight_of, with_played}
use Rattle.pam_room.specs.Serve.{Answered, answer_or_incomplete, at_work, served, served_by, swept, visited}
use Rattle.pam_room.specs.State.{State, scene_in, with_scene}
use Rattle.dispatch_core.specs.Lines.{answers_by, call_of, names_of}
use Rattle.mod_tally.specs.Faillock.{tally_name}
use Rattle.laws_denial.specs.Kept_out.{EachLine}
use Rattle.laws_module.specs.Others.{apart}
use Rattle.laws_user.specs.Calls.{IsOwnLine, KeepsToOwn, LooksAtOwn, with_files}
use Rattle.laws_user.specs.Users.{IsTimely, LookSameTo}
use Rattle.laws_user.proofs.AlikeWalkFacts.{AsksAlike}

-- ---- other files leave the rest of the vault

abbrev pub put : List File → VaultState → VaultState
put files v = record v { files = files }

calls_put : (n : ℕ) (files : List File) (v : VaultState) → after_calls n (put files v) ≡ put files (after_calls n v)
calls_put zero files v = refl
calls_put (suc n) files v = calls_put n files (counted v)

fails_put : (files : List File) (v : VaultState) (n : ℕ) → failing_of (put files v) n ≡ failing_of v n
unfolding failing_of
fails_put files v n = ap is_failing (calls_put n files v)

failing_put : (files : List File) (v : VaultState) → failing_of (put files v) ≡ failing_of v
failing_put files v = λ i. λ n. fails_put files v n i

-- nor does drawing words change the time
pub draws_moment : (n : ℕ) (c : ClockState) → (after_draws n c).moment ≡ c.moment
draws_moment zero c = refl
draws_moment (suc n) c = draws_moment n (random_taken c)

-- ---- a state with other files

abbrev pub in_files : List File → State → State
in_files files s = record s { world = with_files files s.world }

module _ (func : Func) (folder user root : List ℕ) (moment : ℕ) (distinct : path_of root (tally_name folder user) ≢ path_of root (codes "/etc/shadow")) where
  -- the second is the first with other files, which look the same to the user
  pub record Alike (s t : State) : Type 0 where
    pub rest : in_files t.world.vault.files s ≡ t
    pub user_is : s.room.transaction.items.user ≡ Some user
    pub root_is : s.world.process.root ≡ root
    pub moment_is : s.world.clock.moment ≡ moment
    pub look : LookSameTo func folder user root s.world.vault.files t.world.vault.files

  pub record AnswersAlike (a b : Answered) : Type 0 where
    pub answer : a.answer ≡ b.answer
    pub state : Alike a.state b.state

  module _ (timely : IsTimely func moment) (players : List Player) (flags : ℕ) where
    -- what a module's call leads to
    abbrev answered : State → Played → Answered
    answered s p = record {
      answer = answer_or_incomplete p.room.put_off p.code;
      state = swept (notes_of players) (with_scene (with_played p (scene_in s)) s);
    }

    -- the same with another vault
    abbrev in_vault : VaultState → State → State
    in_vault v s = record s { world = record s.world { vault = v } }

    after_alike : (s : State) (others left : List File) (p : Played) → s.world.process.root ≡ root → s.world.clock.moment ≡ moment → p.room.items.user ≡ Some user
        → LookSameTo func folder user root p.files left → AnswersAlike (answered s p) (answered (in_files others s) (record p { files = left }))
    after_alike s others left p root_is moment_is is look = record {
      answer = refl;
      state = record {
        rest = ap (λ (v : VaultState). in_vault (record v { files = left; locks = p.locks s.world.vault.calls s.world.vault.locks }) (answered s p).state)
            (sym (calls_put p.calls others s.world.vault));
        user_is = is;
        root_is = root_is;
        moment_is = draws_moment p.draws s.world.clock ∙ moment_is;
        look = look;
      };
    }

    -- what differs only in files
    with_left : (p q : Played) → apart q ≡ apart p → record p { files = q.files } ≡ q
    with_left p q same = ap (λ (x : Played). record x { files = q.files }) (sym same)

    by_player : (player : Player) (number : ℕ) (rule : Rule) (s : State) (others : List File) → LooksAtOwn func folder rule.args player.plays
        → s.room.transaction.items.user ≡ Some user → s.world.process.root ≡ root → s.world.clock.moment ≡ moment → LookSameTo func folder user root s.world.vault.files others
        → AnswersAlike (served_by players (Some player) number (call_of func flags rule) s)
        (served_by players (Some player) number (call_of func flags rule) (in_files others s))
    by_player player number rule s others looks is root_is moment_is look =
        let now : State = at_work number s in
        let call : PlainCall = call_of func flags rule in
        let sight : Sight = sight_of (scene_in now) in
        let p : Played = played_in player.plays call (scene_in now) in
        let there : Played = player.plays call (seen_of now.room) (named_data now.room.transaction.datums.live) (record sight { files = others }) in
        let q : Played = played_in player.plays call (scene_in (in_files others now)) in
        let same_sight : there ≡ q =
        ap (λ (f : ℕ → Bool). player.plays call (seen_of now.room) (named_data now.room.transaction.datums.live) (record sight { files = others; failing = f }))
        (sym (failing_put others s.world.vault)) in
        let back : (r : List ℕ) → s.world.process.root ≡ r → LookSameTo func folder user r s.world.vault.files others
        → LookSameTo func folder user s.world.process.root s.world.vault.files others =
        λ r e l. subst (λ (x : List ℕ). LookSameTo func folder user x s.world.vault.files others) (sym e) l in
        let own = looks flags (seen_of now.room) (named_data now.room.transaction.datums.live) sight others user is
        (subst (λ (m : ℕ). IsTimely func m) (sym moment_is) timely)
        (subst (λ (r : List ℕ). path_of r (tally_name folder user) ≢ path_of r (codes "/etc/shadow")) (sym root_is) distinct)
        (back root root_is look) in
        let left : LookSameTo func folder user root p.files there.files =
        subst (λ (r : List ℕ). LookSameTo func folder user r p.files there.files) root_is own.same.look in
        subst (λ (x : Played). AnswersAlike (answered now p) (answered (in_files others now) x)) (with_left p there own.same.rest ∙ same_sight)
        (after_alike now others there.files p root_is moment_is own.user_is left)

    -- a line that changes nothing
    unchanged : (s : State) (others : List File) → s.room.transaction.items.user ≡ Some user → s.world.process.root ≡ root → s.world.clock.moment ≡ moment
        → LookSameTo func folder user root s.world.vault.files others → Alike s (in_files others s)
    unchanged s others is root_is moment_is look = record { rest = refl; user_is = is; root_is = root_is; moment_is = moment_is; look = look }

    by_number : (number : Option ℕ) (rule : Rule) (s : State) (others : List File)
        → ((n : ℕ) (player : Player) → number ≡ Some n → slice_get players n ≡ Some player → KeepsToOwn func folder rule.args player.plays)
        → s.room.transaction.items.user ≡ Some user → s.world.process.root ≡ root → s.world.clock.moment ≡ moment → LookSameTo func folder user root s.world.vault.files others
        → AnswersAlike (served players number (call_of func flags rule) s) (served players number (call_of func flags rule) (in_files others s))
    by_number None rule s others own is root_is moment_is look = record { answer = refl; state = unchanged s others is root_is moment_is look }
    by_number (Some n) rule s others own is root_is moment_is look = by_found (slice_get players n) refl
      where
        by_found : (found : Option Player) → slice_get players n ≡ found
            → AnswersAlike (served_by players found n (call_of func flags rule) s)
            (served_by players found n (call_of func flags rule) (in_files others s))
        by_found None there = record { answer = refl; state = unchanged s others is root_is moment_is look }
        by_found (Some player) there = by_player player n rule s others (own n player refl there).looks is root_is moment_is look

    -- the line is added to the trace
    visited_alike : (place : ℕ) (path : List ℕ) (a b : Answered) → AnswersAlike a b → AnswersAlike (visited place path a) (visited place path b)
    visited_alike place path a b alike =
        let state = alike.state in
        record {
          answer = alike.answer;
          state = record {
            rest = λ i. (visited place path (record { answer = alike.answer i; state = state.rest i })).state;
            user_is = state.user_is;
            root_is = state.root_is;
            moment_is = state.moment_is;
            look = state.look;
          };
        }

    abbrev answering : Answering State
    answering = answers_by players func flags

    in_other_files : (rule : Rule) (place : ℕ) (s : State) (others : List File) → IsOwnLine players func folder place rule
        → s.room.transaction.items.user ≡ Some user → s.world.process.root ≡ root → s.world.clock.moment ≡ moment → LookSameTo func folder user root s.world.vault.files others
        → ((answering rule place s).answer ≡ (answering rule place (in_files others s)).answer)
        × Alike (answering rule place s).state (answering rule place (in_files others s)).state
    in_other_files rule place s others own is root_is moment_is look =
        let number = module_of (names_of players) rule in
        let call = call_of func flags rule in
        let r = visited_alike place rule.path (served players number call s) (served players number call (in_files others s))
        (by_number number rule s others own is root_is moment_is look) in
        (r.answer, r.state)

    line_alike : (place : ℕ) (rule : Rule) → IsOwnLine players func folder place rule → AsksAlike Alike answering place rule
    line_alike place rule own s t alike =
        subst (λ (x : State). ((answering rule place s).answer ≡ (answering rule place x).answer) × Alike (answering rule place s).state
        (answering rule place x).state)
        alike.rest (in_other_files rule place s t.world.vault.files own alike.user_is alike.root_is alike.moment_is alike.look)

    pub each_alike : (at : ℕ) (stack : Stack) → EachLine (IsOwnLine players func folder) at stack → EachLine (AsksAlike Alike answering) at stack
    each_alike at none each = each
    each_alike at (line rule rest) each = (line_alike at rule each.0, each_alike (at + 1) rest each.1)
    each_alike at (sub inner rest) each = (each_alike at inner each.0, each_alike (at + lines_in inner) rest each.1)
