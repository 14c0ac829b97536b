-- A walk whose lines are recorded in a trace, and the same walk replayed by these lines.
use Rattle.std.proofs.Common.{◌≡◌, ℕ, zero, suc, ◌+◌, Bool, true, false, ◌&&◌, nat_eq, if◌then◌else◌, List, [], ◌∷◌, ◌++◌, refl, sym, ◌∙◌, ap, append_assoc, append-nil, eq-eqb}
use Rattle.std.specs.Str.{bytes_eq}
use Rattle.pam_base.specs.declared.code.Code.{Code}
use Rattle.control_words.specs.declared.nodes.Rule.{Rule}
use Rattle.control_words.specs.Control.{action_at}
use Rattle.control_words.specs.Module.{name_of_module}
use Rattle.control_words.specs.Stack.{Stack, none, line, sub, count, lines_in}
use Rattle.handler_chain.specs.declared.opinion.Opinion.{Opinion}
use Rattle.handler_chain.specs.declared.pass_kind.PassKind.{PassKind}
use Rattle.handler_chain.specs.Opinion.{acted, opening}
use Rattle.handler_chain.specs.Walk.{Served, Walked, walked, halted, Next, after, stop, next_of, new_or_overrun, onward, walk}
use Rattle.handler_chain.specs.Route.{KeptAnswers}
use Rattle.handler_chain.specs.Pass.{Visit, Answered, Answering, PassState, pass_state, served_now, served_past, serving}
use Rattle.handler_chain.specs.Retell.{RecordedLine, seen_at, Telling, telling, strays, answer_told, replaying, Retells}

same_bytes : (xs : List ℕ) → bytes_eq xs xs ≡ true
same_bytes [] = refl
same_bytes (x ∷ xs) = ap (λ (b : Bool). b && bytes_eq xs xs) (eq-eqb x x refl) ∙ same_bytes xs

own_visit : (place : ℕ) (name : List ℕ) → (nat_eq place place && bytes_eq name name) ≡ true
own_visit place name = ap (λ (b : Bool). b && bytes_eq name name) (eq-eqb place place refl) ∙ same_bytes name

told_again : (rule : Rule) (place : ℕ) (answer : Code) (more : List RecordedLine)
    → answer_told rule place (seen_at place (name_of_module rule.path) answer ∷ more) ≡ record { answer = answer; state = telling more }
told_again rule place answer more =
    let name : List ℕ = name_of_module rule.path in
    let yes : Answered Telling = record { answer = answer; state = telling more } in
    ap (λ (b : Bool). if b then yes else strays (seen_at place name answer ∷ more)) (own_visit place name)

abbrev pub served_again : {State : Type 0} → Served (PassState State) → List RecordedLine → Served (PassState Telling)
served_again v more = record { answer = v.answer; deciding = v.deciding; stopped = v.stopped; state = pass_state v.state.past v.state.visits (telling more) }

abbrev pub walked_again : {State : Type 0} → Walked (PassState State) → List RecordedLine → Walked (PassState Telling)
walked_again w more = record { opinion = w.opinion; state = pass_state w.state.past w.state.visits (telling more); stopped = w.stopped }

module _ (State : Type 0) (trail : State → List RecordedLine) where
  -- what a line and a walk add to the trace, and that they are the same when replayed by these
  -- lines
  pub record ServedTold (v : Served (PassState State)) (before : List RecordedLine) (again : List RecordedLine → Served (PassState Telling)) : Type 0 where
    pub news : List RecordedLine
    pub adds : trail v.state.state ≡ before ++ news
    pub same : (more : List RecordedLine) → again (news ++ more) ≡ served_again v more

  pub record WalkTold (w : Walked (PassState State)) (before : List RecordedLine) (again : List RecordedLine → Walked (PassState Telling)) : Type 0 where
    pub news : List RecordedLine
    pub adds : trail w.state.state ≡ before ++ news
    pub same : (more : List RecordedLine) → again (news ++ more) ≡ walked_again w more

  nothing_told : (w : Walked (PassState State)) → WalkTold w (trail w.state.state) (walked_again w)
  nothing_told w = record { news = []; adds = sym (append-nil (trail w.state.state)); same = λ more. refl }

  onward_told : (next : Next) (f : ℕ → Walked (PassState State)) (f' : ℕ → List RecordedLine → Walked (PassState Telling)) (w : Walked (PassState State)) (w' : List RecordedLine → Walked (PassState Telling)) (before : List RecordedLine)
      → ((n : ℕ) → WalkTold (f n) before (f' n)) → WalkTold w before w' → WalkTold (onward next f w) before (λ left. onward next (λ n. f' n left) (w' left))
  onward_told (after n) f f' w w' before each here = each n
  onward_told stop f f' w w' before each here = here

  if_told : (b : Bool) (w v : Walked (PassState State)) (w' v' : List RecordedLine → Walked (PassState Telling)) (before : List RecordedLine)
      → WalkTold w before w' → WalkTold v before v' → WalkTold (if b then w else v) before (λ left. if b then w' left else v' left)
  if_told true w v w' v' before one two = one
  if_told false w v w' v' before one two = two

  after_served : (v : Served (PassState State)) (before : List RecordedLine) (again : List RecordedLine → Served (PassState Telling)) (w : Walked (PassState State)) (f : Served (PassState Telling) → Walked (PassState Telling))
      → ServedTold v before again → WalkTold w (trail v.state.state) (λ left. f (served_again v left)) → WalkTold w before (λ left. f (again left))
  after_served v before again w f one two = record {
    news = one.news ++ two.news;
    adds = two.adds ∙ ap (λ (xs : List RecordedLine). xs ++ two.news) one.adds ∙ append_assoc before one.news two.news;
    same = λ more. ap (λ (xs : List RecordedLine). f (again xs)) (append_assoc one.news two.news more) ∙ ap f (one.same (two.news ++ more)) ∙ two.same more;
  }

  after_walk : (v : Walked (PassState State)) (before : List RecordedLine) (again : List RecordedLine → Walked (PassState Telling)) (w : Walked (PassState State)) (f : Walked (PassState Telling) → Walked (PassState Telling))
      → WalkTold v before again → WalkTold w (trail v.state.state) (λ left. f (walked_again v left)) → WalkTold w before (λ left. f (again left))
  after_walk v before again w f one two = record {
    news = one.news ++ two.news;
    adds = two.adds ∙ ap (λ (xs : List RecordedLine). xs ++ two.news) one.adds ∙ append_assoc before one.news two.news;
    same = λ more. ap (λ (xs : List RecordedLine). f (again xs)) (append_assoc one.news two.news more) ∙ ap f (one.same (two.news ++ more)) ∙ two.same more;
  }

  module _ (kind : PassKind) (kept : KeptAnswers) (answering : Answering State)
      (tells : (rule : Rule) (place : ℕ) (s : State) → trail (answering rule place s).state ≡ trail s ++ seen_at place (name_of_module rule.path) (answering rule place s).answer ∷ []) where
    line_told : (rule : Rule) (at : ℕ) (past : List Code) (visits : List Visit) (s : State)
        → ServedTold (served_past kind kept answering rule at past visits s) (trail s) (λ left. served_past kind kept replaying rule at past visits (telling left))
    line_told rule at [] visits s = record {
      news = seen_at at (name_of_module rule.path) (answering rule at s).answer ∷ [];
      adds = tells rule at s;
      same = λ more. ap (served_now kind kept at visits) (told_again rule at (answering rule at s).answer more);
    }
    line_told rule at (p ∷ past) visits s = record { news = []; adds = sym (append-nil (trail s)); same = λ more. refl }

    pub walk_told : (t : Stack) (n at : ℕ) (entry o : Opinion) (g : PassState State)
        → WalkTold (walk kind (serving kind kept answering) n t at entry o g) (trail g.state) (λ left. walk kind (serving kind kept replaying) n t at entry o (pass_state g.past g.visits (telling left)))
    walk_told none n at entry o g = record { news = []; adds = sym (append-nil (trail g.state)); same = λ more. refl }
    walk_told (line rule t) (suc n) at entry o g = walk_told t n (at + 1) entry o g
    walk_told (sub inner t) (suc n) at entry o g = walk_told t n (at + lines_in inner) entry o g
    walk_told (line rule t) zero at entry o g =
        let left : ℕ = count t in
        let v : Served (PassState State) = serving kind kept answering rule at g in
        let new : Opinion = acted kind (action_at rule.control v.deciding) v.answer v.deciding entry o in
        let last : Opinion = new_or_overrun (action_at rule.control v.deciding) left new in
        let next : Next = next_of (action_at rule.control v.deciding) left new in
        let on : Served (PassState Telling) → Walked (PassState Telling) = λ x.
        let new' : Opinion = acted kind (action_at rule.control x.deciding) x.answer x.deciding entry o in
        let last' : Opinion = new_or_overrun (action_at rule.control x.deciding) left new' in
        if x.stopped then halted o x.state
        else onward (next_of (action_at rule.control x.deciding) left new') (λ n. walk kind (serving kind kept replaying) n t (at + 1) entry last' x.state) (walked last' x.state) in
        after_served v (trail g.state) _ _ on (line_told rule at g.past g.visits g.state)
        (if_told v.stopped _ _ _ _ (trail v.state.state) (nothing_told (halted o v.state))
        (onward_told next _ _ _ _ (trail v.state.state) (λ n. walk_told t n (at + 1) entry last v.state) (nothing_told (walked last v.state))))
    walk_told (sub inner t) zero at entry o g =
        let inside : Walked (PassState State) = walk kind (serving kind kept answering) zero inner at o o g in
        let on : Walked (PassState Telling) → Walked (PassState Telling) = λ x.
        if x.stopped then x else walk kind (serving kind kept replaying) zero t (at + lines_in inner) entry x.opinion x.state in
        after_walk inside (trail g.state) _ _ on (walk_told inner zero at o o g)
        (if_told inside.stopped _ _ _ _ (trail inside.state.state) (nothing_told inside) (walk_told t zero (at + lines_in inner) entry inside.opinion inside.state))

pub retells : (State : Type 0) → Retells State
retells State trail kind kept answering tells stack past s =
    let told = walk_told State trail kind kept answering tells stack 0 1 opening opening (pass_state past [] s) in
    record { news = told.news; adds = told.adds; same = told.same }
