-- A line of a pass that is replayed: its code, and the state after it.
use Rattle.std.proofs.Common.{◌≡◌, ℕ, ◌+◌, Bool, false, if◌then◌else◌, List, [], ◌∷◌, ◌++◌, Option, Some, None, drop, sym, ◌∙◌, ap, subst}
use Rattle.std.specs.List.{slice_get}
use Rattle.pam_base.specs.declared.code.Code.{Code}
use Rattle.control_words.specs.declared.nodes.Rule.{Rule}
use Rattle.handler_chain.specs.declared.pass_kind.PassKind.{PassKind}
use Rattle.handler_chain.specs.declared.seen.RecordedLine.{RecordedLine}
use Rattle.handler_chain.specs.Route.{KeptAnswers}
use Rattle.handler_chain.specs.Retell.{Telling, replaying}
use Rattle.handler_chain.specs.Pass.{Answered, AnswersAs, PassState, Visit, visit, decides, is_incomplete, pass_state, served_now, served_past, serving}
use Rattle.handler_chain.specs.Walk.{Served, ServedAs}
use Rattle.pass_replay.specs.declared.replay.Replay.{Replay}
use Rattle.pass_replay.specs.Kept.{visits_of}
use Rattle.pass_replay.specs.Told.{telling_from}
use Rattle.pass_replay.specs.Walk.{state_in}
use Rattle.pass_replay.proofs.ListRestFacts.{drop_next, drop_past}
use Rattle.pass_replay.proofs.CodeCellFacts.{visits_of-append}

-- the code of an earlier call
pub given : (kind : PassKind) (kept : KeptAnswers) (rule : Rule) (past : List Code) (told : List (Option RecordedLine))
    (old new : Replay) (answer : Code) → slice_get past old.used ≡ Some answer
    → new ≡ record old { used = old.used + 1; visits = old.visits ++ record { place = old.at + 1; answer = answer } ∷ [] }
    → ServedAs (serving kind kept replaying rule (old.at + 1) (state_in past told old)) answer (decides kind kept (old.at + 1) answer) false
    (state_in past told new)
given kind kept rule past told old new answer is new_is =
    let at : ℕ = old.at + 1 in
    let visits : List Visit = visits_of old.visits in
    let telling : Telling = telling_from told old.next old.astray in
    let served : serving kind kept replaying rule at (state_in past told old)
    ≡ served_past kind kept replaying rule at (answer ∷ drop (old.used + 1) past) visits telling =
    ap (λ (left : List Code). served_past kind kept replaying rule at left visits telling) (drop_next past old.used answer is) in
    let state : state_in past told new ≡ pass_state (drop (old.used + 1) past) (visits ++ visit at answer ∷ []) telling =
    ap (state_in past told) new_is
    ∙ ap (λ (vs : List Visit). pass_state (drop (old.used + 1) past) vs telling) (visits_of-append old.visits (record { place = at; answer = answer } ∷ [])) in
    record {
      answer_is = sym (ap (λ (s : Served (PassState Telling)). s.answer) served);
      deciding_is = sym (ap (λ (s : Served (PassState Telling)). s.deciding) served);
      stopped_is = sym (ap (λ (s : Served (PassState Telling)). s.stopped) served);
      state_is = state ∙ sym (ap (λ (s : Served (PassState Telling)). s.state) served);
    }

-- the code of a line that was run
asked_once : {State : Type 0} (kind : PassKind) (kept : KeptAnswers) (at : ℕ) (visits : List Visit) (a : Answered State)
    (answer : Code) (state : State) → AnswersAs a answer state → is_incomplete answer ≡ false
    → ServedAs (served_now kind kept at visits a) answer (decides kind kept at answer) false (pass_state [] (visits ++ visit at answer ∷ []) state)
asked_once {State = State} kind kept at visits a answer state s goes =
    let on : is_incomplete a.answer ≡ false = ap is_incomplete (sym s.answer_is) ∙ goes in
    record {
      answer_is = s.answer_is;
      deciding_is = ap (decides kind kept at) s.answer_is;
      stopped_is = sym on;
      state_is =
          ap (λ (c : Code). pass_state [] (visits ++ visit at c ∷ []) state) s.answer_is
          ∙ ap (λ (t : State). pass_state [] (visits ++ visit at a.answer ∷ []) t) s.state_is
          ∙ ap (λ (b : Bool). pass_state [] (if b then visits else visits ++ visit at a.answer ∷ []) a.state) (sym on);
    }

pub asked : (kind : PassKind) (kept : KeptAnswers) (rule : Rule) (past : List Code) (told : List (Option RecordedLine))
    (old mid new : Replay) (answer : Code) → slice_get past old.used ≡ None
    → AnswersAs (replaying rule (old.at + 1) (telling_from told old.next old.astray)) answer (telling_from told mid.next mid.astray)
    → mid ≡ record old { next = mid.next; astray = mid.astray } → is_incomplete answer ≡ false
    → new ≡ record mid { visits = mid.visits ++ record { place = mid.at + 1; answer = answer } ∷ [] }
    → ServedAs (serving kind kept replaying rule (old.at + 1) (state_in past told old)) answer (decides kind kept (old.at + 1) answer) false
    (state_in past told new)
asked kind kept rule past told old mid new answer is answers mid_is goes new_is =
    let at : ℕ = old.at + 1 in
    let visits : List Visit = visits_of old.visits in
    let telling : Telling = telling_from told old.next old.astray in
    let later : Telling = telling_from told mid.next mid.astray in
    let none_left : drop old.used past ≡ [] = drop_past past old.used is in
    let used : mid.used ≡ old.used = ap (λ (r : Replay). r.used) mid_is in
    let more : visits_of (mid.visits ++ record { place = mid.at + 1; answer = answer } ∷ []) ≡ visits ++ visit at answer ∷ [] =
    visits_of-append mid.visits (record { place = mid.at + 1; answer = answer } ∷ [])
    ∙ ap (λ (r : Replay). visits_of r.visits ++ visit (r.at + 1) answer ∷ []) mid_is in
    let state : state_in past told new ≡ pass_state [] (visits ++ visit at answer ∷ []) later =
    ap (state_in past told) new_is
    ∙ ap (λ (vs : List Visit). pass_state (drop mid.used past) vs later) more
    ∙ ap (λ n. pass_state (drop n past) (visits ++ visit at answer ∷ []) later) used
    ∙ ap (λ (left : List Code). pass_state left (visits ++ visit at answer ∷ []) later) none_left in
    subst (λ (s : PassState Telling). ServedAs (serving kind kept replaying rule at (state_in past told old)) answer (decides kind kept at answer) false
    s) (sym state)
    (subst (λ (left : List Code). ServedAs (served_past kind kept replaying rule at left visits telling) answer (decides kind kept at answer) false
    (pass_state [] (visits ++ visit at answer ∷ []) later)) (sym none_left)
    (asked_once kind kept at visits (replaying rule at telling) answer later answers goes))
