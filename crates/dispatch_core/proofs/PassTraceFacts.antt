-- A pass replayed by its trace, as far as it has got.
use Rattle.std.proofs.Common.{◌≡◌, ℕ, ◌+◌, ◌<◌, ◌≤◌, inl, inr, Bool, true, false, ◌&&◌, nat_eq, if◌then◌else◌, List, [], ◌∷◌, ◌++◌, append_assoc, append-nil, Option, Some, None, is_some, Result, Ok, Err, IfOk, OnErr, is_ok, refl, sym, ◌∙◌, ap, subst, arith, eq-eqb}
use Rattle.std.specs.Str.{bytes_eq}
use Rattle.pam_base.specs.declared.code.Code.{Code}
use Rattle.pam_base.specs.declared.code.Code.TheVariants as codes
use Rattle.pam_base.specs.declared.call.Func.{Func}
use Rattle.pam_base.specs.declared.fault.NoMemory.{NoMemory}
use Rattle.control_words.specs.declared.nodes.Rule.{Rule}
use Rattle.control_words.specs.Module.{name_of_module}
use Rattle.control_words.specs.Stack.{Stack, lines_in}
use Rattle.frozen_chain.specs.Kept.{Answers}
use Rattle.handler_chain.specs.FlatLines.{rule_at}
use Rattle.pam_room.specs.declared.visits.Visit.{Visit as Visited}
use Rattle.pam_room.specs.Module.{Player}
use Rattle.pam_room.specs.State.{State}
use Rattle.handler_chain.specs.declared.pass_kind.PassKind.{PassKind}
use Rattle.handler_chain.specs.declared.pass_kind.PassKind.TheVariants as kinds
use Rattle.handler_chain.specs.Opinion.{opening, verdict}
use Rattle.handler_chain.specs.Pass.{Answered, PassState, Visit, answers_of, decides, is_incomplete, pass_after, pass_state, served_now, serving, visit}
use Rattle.handler_chain.specs.Retell.{RecordedLine, Telling, answer_told, replaying, seen_at, strays, telling}
use Rattle.handler_chain.specs.Route.{KeptAnswers}
use Rattle.handler_chain.specs.Walk.{ServedAs, Walked}
use Rattle.dispatch_core.specs.declared.walker.Walker.{Walker}
use Rattle.dispatch_core.specs.EntryStates.{entry_at}
use Rattle.dispatch_core.specs.Failing.{GoesBy, IsAsked, Takes, visited_at}
use Rattle.dispatch_core.specs.AnswersSoFar.{AnswersView}
use Rattle.dispatch_core.specs.Index.{walk_on}
use Rattle.dispatch_core.specs.Passes.{Keeps, KeepsAfter, KeepsAll, LeavesAs, WalksAs, answer_in, code_by, cells_after, paused_by}
use Rattle.dispatch_core.specs.Trail.{ByTrail, seen_in, seen_of}
use Rattle.dispatch_core.proofs.LastTurnFacts.{walks_off, walks_to}
use Rattle.dispatch_core.proofs.LineTurnFacts.{put_off}
use Rattle.dispatch_core.proofs.IndexTurnFacts.{begun, ended_at_last}

same_bytes : (xs : List ℕ) → bytes_eq xs xs ≡ true
same_bytes [] = refl
same_bytes (x ∷ xs) = ap (λ (b : Bool). b && bytes_eq xs xs) (eq-eqb x x refl) ∙ same_bytes xs

-- the line of a rule returns what the trace has for it, if that is next in the trace
own_line : (rule : Rule) (place : ℕ) (code : Code) (left : List RecordedLine)
    → answer_told rule place (seen_at place (name_of_module rule.path) code ∷ left) ≡ record { answer = code; state = telling left }
own_line rule place code left =
    let name : List ℕ = name_of_module rule.path in
    let yes : Answered Telling = record { answer = code; state = telling left } in
    let test : (nat_eq place place && bytes_eq name name) ≡ true = ap (λ (b : Bool). b && bytes_eq name name) (eq-eqb place place refl) ∙ same_bytes name in
    ap (λ (b : Bool). if b then yes else strays (seen_at place name code ∷ left)) test

pub served_told : (kind : PassKind) (kept : KeptAnswers) (stack : Stack) (i : ℕ) (code : Code) (visits : List Visit) (left : List RecordedLine) → is_incomplete code ≡ false
    → ServedAs (serving kind kept replaying (rule_at stack i) (i + 1) (pass_state [] visits (telling (seen_of (visited_at stack i code) ∷ left)))) code (decides kind kept (i + 1) code) false
    (pass_state [] (visits ++ visit (i + 1) code ∷ []) (telling left))
served_told kind kept stack i code visits left on =
    subst (λ (a : Answered Telling). ServedAs (served_now kind kept (i + 1) visits a) code (decides kind kept (i + 1) code) false (pass_state [] (visits ++ visit (i + 1) code ∷ []) (telling left)))
    (sym (own_line (rule_at stack i) (i + 1) code left))
    (record {
      answer_is = refl;
      deciding_is = refl;
      stopped_is = sym on;
      state_is = ap (λ (b : Bool). pass_state [] (if b then visits else visits ++ visit (i + 1) code ∷ []) (telling left)) (sym on);
    })

put_off_told : (kind : PassKind) (kept : KeptAnswers) (stack : Stack) (i : ℕ) (visits : List Visit) (left : List RecordedLine)
    → ServedAs (serving kind kept replaying (rule_at stack i) (i + 1) (pass_state [] visits (telling (seen_of (visited_at stack i codes.Incomplete) ∷ left)))) codes.Incomplete (decides kind kept (i + 1) codes.Incomplete) true
    (pass_state [] visits (telling left))
put_off_told kind kept stack i visits left =
    subst (λ (a : Answered Telling). ServedAs (served_now kind kept (i + 1) visits a) codes.Incomplete (decides kind kept (i + 1) codes.Incomplete) true (pass_state [] visits (telling left)))
    (sym (own_line (rule_at stack i) (i + 1) codes.Incomplete left))
    (record { answer_is = refl; deciding_is = refl; stopped_is = refl; state_is = refl })

seen_more : (vs ws : List Visited) → seen_in (vs ++ ws) ≡ seen_in vs ++ seen_in ws
seen_more [] ws = refl
seen_more (v ∷ vs) ws = ap (λ (xs : List RecordedLine). seen_of v ∷ xs) (seen_more vs ws)

module _ (kind : PassKind) (kept : KeptAnswers) (stack : Stack) (given : List Code) (start : List Visited) where
  -- The lines that were run since the start. Whatever lines come after them, the walk from here on goes where the whole
  -- walk goes with all of them.
  pub record Traced (walker : Walker) (past : List Code) (visits : List Visit) (now : List Visited) : Type 0 where
    pub more : List Visited
    pub trail : now ≡ start ++ more
    pub leads : (rest : List RecordedLine) → walk_on kind (serving kind kept replaying) stack walker (pass_state past visits (telling rest)) ≡ pass_after kind kept replaying stack given (telling (seen_in more ++ rest))

  pub traced_first : (walker : Walker) → walker.at ≡ 0 → walker.opinion ≡ opening → ((k : ℕ) → entry_at walker.entries k ≡ opening) → Traced walker given [] start
  traced_first walker at opinion entries = record {
    more = [];
    trail = sym (append-nil start);
    leads = λ rest. begun kind (serving kind kept replaying) stack walker (pass_state given [] (telling rest)) at opinion entries;
  }

  -- one more line, and the walk with all of them
  line_more : (walker : Walker) (past : List Code) (visits : List Visit) (now : List Visited) (w : Visited) (rest : List RecordedLine) (traced : Traced walker past visits now) → past ≡ []
      → walk_on kind (serving kind kept replaying) stack walker (pass_state [] visits (telling (seen_of w ∷ rest))) ≡ pass_after kind kept replaying stack given (telling (seen_in (traced.more ++ w ∷ []) ++ rest))
  line_more walker past visits now w rest traced none =
      subst (λ (cs : List Code). walk_on kind (serving kind kept replaying) stack walker (pass_state cs visits (telling (seen_of w ∷ rest))) ≡ pass_after kind kept replaying stack given (telling (seen_in traced.more ++ seen_of w ∷ rest))) none (traced.leads (seen_of w ∷ rest))
      ∙ ap (λ (l : List RecordedLine). pass_after kind kept replaying stack given (telling l))
      (sym (append_assoc (seen_in traced.more) (seen_of w ∷ []) rest) ∙ ap (λ (l : List RecordedLine). l ++ rest) (sym (seen_more traced.more (w ∷ []))))

  trail_more : (walker : Walker) (past : List Code) (visits : List Visit) (now later : List Visited) (w : Visited) (traced : Traced walker past visits now) → later ≡ now ++ w ∷ [] → later ≡ start ++ (traced.more ++ w ∷ [])
  trail_more walker past visits now later w traced is = is ∙ ap (λ (xs : List Visited). xs ++ w ∷ []) traced.trail ∙ append_assoc start traced.more (w ∷ [])

  module _ (players : List Player) (func : Func) (flags : ℕ) (tells : Bool) (walker : Walker) (past left : List Code) (visits : List Visit) (now later : State) (traced : Traced walker past visits now.room.transaction.trail) where
    traced_more : (new : Walker) (code : Code) → GoesBy kind kept stack code walker new → Takes players func flags stack tells walker.at (Some code) past left now later
        → Traced new left (visits ++ visit (walker.at + 1) code ∷ []) later.room.transaction.trail
    traced_more new code goes (inl p) = record {
      more = traced.more;
      trail = ap (λ (s : State). s.room.transaction.trail) p.1 ∙ traced.trail;
      leads = λ rest. sym (goes.again left visits rest) ∙ subst (λ (cs : List Code). walk_on kind (serving kind kept replaying) stack walker (pass_state cs visits (telling rest)) ≡ pass_after kind kept replaying stack given (telling (seen_in traced.more ++ rest))) p.0 (traced.leads rest);
    }
    traced_more new code goes (inr asked) =
        let w : Visited = visited_at stack walker.at code in
        record {
          more = traced.more ++ w ∷ [];
          trail = trail_more walker past visits now.room.transaction.trail later.room.transaction.trail w traced asked.trail;
          leads = λ rest.
              ap (λ (cs : List Code). walk_on kind (serving kind kept replaying) stack new (pass_state cs (visits ++ visit (walker.at + 1) code ∷ []) (telling rest))) asked.none_left
              ∙ sym (goes.told asked.goes_on visits rest)
              ∙ line_more walker past visits now.room.transaction.trail w rest traced asked.none_before;
        }

    -- the same for a chain whose stack has not changed, given the result of the turn
    pub traced_later : (nodes : Stack) (new : Walker) (code : Code) (answer : Option Code) → nodes ≡ stack
        → GoesBy kind kept nodes code walker new → Takes players func flags nodes tells walker.at answer past left now later → answer ≡ Some code
        → Traced new left (visits ++ visit (walker.at + 1) code ∷ []) later.room.transaction.trail
    traced_later nodes new code answer same goes takes is =
        traced_more new code
        (subst (λ (t : Stack). GoesBy kind kept t code walker new) same goes)
        (subst (λ (t : Stack). Takes players func flags t tells walker.at (Some code) past left now later) same (subst (λ (o : Option Code). Takes players func flags nodes tells walker.at o past left now later) is takes))

    module _ (cells : Answers) (view : AnswersView) (taken : view.taken ≡ answers_of visits) (keeps : is_some cells ≡ true → Keeps cells visits) where
      traced_off : IsAsked players func flags stack tells walker.at codes.Incomplete true past left now later → walker.at < lines_in stack
          → ByTrail kind kept stack given start later.room.transaction.trail (λ w told. WalksAs w None cells view told)
      traced_off asked within =
          let w : Visited = visited_at stack walker.at codes.Incomplete in
          record {
            more = traced.more ++ w ∷ [];
            trail = trail_more walker past visits now.room.transaction.trail later.room.transaction.trail w traced asked.trail;
            goes = λ rest.
                walks_off (pass_after kind kept replaying stack given (telling (seen_in (traced.more ++ w ∷ []) ++ rest))) walker.opinion [] visits (telling rest) cells view taken keeps
                (sym (put_off kind (serving kind kept replaying) stack walker (pass_state [] visits (telling (seen_of w ∷ rest))) [] visits (telling rest) None (decides kind kept (walker.at + 1) codes.Incomplete) within
                (put_off_told kind kept stack walker.at visits rest) refl)
                ∙ line_more walker past visits now.room.transaction.trail w rest traced asked.none_before);
          }

      pub traced_put_off : (nodes : Stack) (answer : Option Code) → nodes ≡ stack → Takes players func flags nodes tells walker.at answer past left now later → answer ≡ None → walker.at < lines_in nodes
          → ByTrail kind kept stack given start later.room.transaction.trail (λ w told. WalksAs w None cells view told)
      traced_put_off nodes answer same takes is within =
          traced_off
          (subst (λ (t : Stack). IsAsked players func flags t tells walker.at codes.Incomplete true past left now later) same (subst (λ (o : Option Code). Takes players func flags nodes tells walker.at o past left now later) is takes))
          (omega (arith, within, ap lines_in same))

  pub traced_ended : (walker : Walker) (past : List Code) (visits : List Visit) (now : List Visited) (cells : Answers) (view : AnswersView) (code : Code) → Traced walker past visits now
      → view.taken ≡ answers_of visits → (is_some cells ≡ true → Keeps cells visits) → lines_in stack ≤ walker.at → code ≡ verdict walker.opinion
      → ByTrail kind kept stack given start now (λ w told. WalksAs w (Some code) cells view told)
  traced_ended walker past visits now cells view code traced taken keeps past_end decided = record {
    more = traced.more;
    trail = traced.trail;
    goes = λ rest.
        walks_to (pass_after kind kept replaying stack given (telling (seen_in traced.more ++ rest))) walker.opinion past visits (telling rest) cells view taken keeps code decided
        (ended_at_last kind (serving kind kept replaying) stack walker (pass_state past visits (telling rest)) _ past_end (traced.leads rest));
  }

-- ---- from the walk to the pass

module _ (kind : PassKind) (kept : KeptAnswers) (stack : Stack) where
  -- what follows from what a walk gives and leaves
  by_trail : (given past : List Code) (start before after : List Visited) (As Bs : Walked (PassState Telling) → Telling → Type 0) → given ≡ past → start ≡ before
      → ((w : Walked (PassState Telling)) (told : Telling) → As w told → Bs w told) → ByTrail kind kept stack given start after As → ByTrail kind kept stack past before after Bs
  by_trail given past start before after As Bs all first each b = record {
    more = b.more;
    trail = b.trail ∙ ap (λ (xs : List Visited). xs ++ b.more) first;
    goes = λ rest. each _ _ (subst (λ (cs : List Code). As (pass_after kind kept replaying stack cs (telling (seen_in b.more ++ rest))) (telling rest)) all (b.goes rest));
  }

off_if : (b : Bool) (x : Code) → None ≡ (if b then None else Some x) → b ≡ true
off_if true x e = refl
off_if false x e = (cc)

on_if : (b : Bool) (code x : Code) → Some code ≡ (if b then None else Some x) → (b ≡ false) × (code ≡ x)
on_if true code x e = (cc)
on_if false code x e = (refl, cc)

kept_so : (kind : PassKind) (visits : List Visit) (cells old new : Answers) → new ≡ cells_after kind true cells old → (kind ≡ kinds.Keep → KeepsAll cells visits) → KeepsAfter kind visits old new
kept_so kinds.Keep visits cells old new is all = subst (λ (k : Answers). KeepsAll k visits) (sym is) (all refl)
kept_so kinds.Follow visits cells old new is all = is
kept_so kinds.Loose visits cells old new is all = is

leaves_as : {T : Type 0} (kind : PassKind) (w : Walked (PassState T)) (end : Option Code) (cells old new : Answers) (view : AnswersView) (paused : Option (List Code)) (t : T)
    → new ≡ cells_after kind true cells old → paused ≡ paused_by (Ok end) view.taken → (kind ≡ kinds.Keep → is_some cells ≡ true) → WalksAs w end cells view t → LeavesAs kind w old (answer_in end) new paused t
leaves_as kind w None cells old new view paused t keeps at held walks =
    let stops : w.stopped ≡ true = off_if w.stopped (verdict w.opinion) walks.end_is in
    record {
      code_is = ap (λ (b : Bool). if b then codes.Incomplete else verdict w.opinion) (sym stops);
      kept_is = kept_so kind w.state.visits cells old new keeps (λ keep. (held keep, walks.kept_is (held keep)));
      paused_is = at ∙ ap Some walks.taken_is ∙ ap (λ (b : Bool). if b then Some (answers_of w.state.visits) else None) (sym stops);
      state_is = walks.state_is;
    }
leaves_as kind w (Some code) cells old new view paused t keeps at held walks =
    let on = on_if w.stopped code (verdict w.opinion) walks.end_is in
    record {
      code_is = on.1 ∙ ap (λ (b : Bool). if b then codes.Incomplete else verdict w.opinion) (sym on.0);
      kept_is = kept_so kind w.state.visits cells old new keeps (λ keep. (held keep, walks.kept_is (held keep)));
      paused_is = at ∙ ap (λ (b : Bool). if b then Some (answers_of w.state.visits) else None) (sym on.0);
      state_is = walks.state_is;
    }

-- the whole pass, depending on how its walk ended: what is cached after it, and the codes to resume
-- with
module _ (kind : PassKind) (cells old new : Answers) (view : AnswersView) (paused : Option (List Code)) (held : kind ≡ kinds.Keep → is_some cells ≡ true) where
  pub pass_leaves : {T : Type 0} (w : Walked (PassState T)) (t : T) (ended : Result (Option Code) NoMemory) (result : Result Code NoMemory)
      → result ≡ code_by ended → new ≡ cells_after kind (is_ok ended) cells old → paused ≡ paused_by ended view.taken
      → IfOk ended (λ end. WalksAs w end cells view t) → IfOk result (λ code. LeavesAs kind w old code new paused t)
  pass_leaves {T} w t (Err e) result is keeps at walks = subst (λ (r : Result Code NoMemory). IfOk r (λ code. LeavesAs kind w old code new paused t)) (sym is) tt
  pass_leaves {T} w t (Ok end) result is keeps at walks = subst (λ (r : Result Code NoMemory). IfOk r (λ code. LeavesAs kind w old code new paused t)) (sym is) (leaves_as kind w end cells old new view paused t keeps at held walks)

  pub pass_traced : (kept : KeptAnswers) (stack : Stack) (given past : List Code) (start before after : List Visited) (ended : Result (Option Code) NoMemory) (result : Result Code NoMemory)
      → result ≡ code_by ended → new ≡ cells_after kind (is_ok ended) cells old → paused ≡ paused_by ended view.taken → given ≡ past → start ≡ before
      → IfOk ended (λ end. ByTrail kind kept stack given start after (λ w told. WalksAs w end cells view told))
      → IfOk result (λ code. ByTrail kind kept stack past before after (λ w told. LeavesAs kind w old code new paused told))
  pass_traced kept stack given past start before after (Err e) result is keeps at all first b =
      subst (λ (r : Result Code NoMemory). IfOk r (λ code. ByTrail kind kept stack past before after (λ w told. LeavesAs kind w old code new paused told))) (sym is) tt
  pass_traced kept stack given past start before after (Ok end) result is keeps at all first b =
      subst (λ (r : Result Code NoMemory). IfOk r (λ code. ByTrail kind kept stack past before after (λ w told. LeavesAs kind w old code new paused told))) (sym is)
      (by_trail kind kept stack given past start before after (λ w told. WalksAs w end cells view told) (λ w told. LeavesAs kind w old (answer_in end) new paused told) all first
      (λ w told walks. leaves_as kind w end cells old new view paused told keeps at held walks) b)

-- where it stopped is where its walk stopped
pub pass_stops : {S T : Type 0} (ended : Result (Option Code) NoMemory) (result : Result Code NoMemory) → result ≡ code_by ended → (S → T) → OnErr ended S → OnErr result T
pass_stops {S} {T} (Ok end) result is goes stops = subst (λ (r : Result Code NoMemory). OnErr r T) (sym is) tt
pass_stops {S} {T} (Err e) result is goes stops = subst (λ (r : Result Code NoMemory). OnErr r T) (sym is) (goes stops)
