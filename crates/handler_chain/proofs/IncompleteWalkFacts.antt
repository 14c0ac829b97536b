-- An incomplete walk, and a later one that has its codes and for which no more lines are recorded.
use Rattle.std.proofs.Common.{◌≡◌, ℕ, zero, suc, ◌+◌, Bool, true, false, true≢false, if◌then◌else◌, List, [], ◌∷◌, ◌++◌, refl, sym, ◌∙◌, ap, subst, append_assoc, append-nil}
use Rattle.pam_base.specs.declared.code.Code.{Code}
use Rattle.control_words.specs.declared.nodes.Rule.{Rule}
use Rattle.control_words.specs.Control.{action_at}
use Rattle.control_words.specs.Stack.{Stack, none, line, sub, count, lines_in}
use Rattle.handler_chain.specs.declared.opinion.Opinion.{Opinion}
use Rattle.handler_chain.specs.declared.pass_kind.PassKind.{PassKind}
use Rattle.handler_chain.specs.Opinion.{acted, opening}
use Rattle.handler_chain.specs.Walk.{Served, Walked, walked, halted, Next, after, stop, next_of, new_or_overrun, onward, walk}
use Rattle.handler_chain.specs.Route.{KeptAnswers}
use Rattle.handler_chain.specs.Pass.{Visit, visit, Answering, PassState, pass_state, answers_of, decides, is_incomplete, served_past, serving, pass_after}
use Rattle.handler_chain.specs.Retell.{Telling, telling, replaying, ResumesAsking}

answers_of-append : (one two : List Visit) → answers_of (one ++ two) ≡ answers_of one ++ answers_of two
answers_of-append [] two = refl
answers_of-append (v ∷ one) two = ap (λ (cs : List Code). v.answer ∷ cs) (answers_of-append one two)

-- a line was met that wasn't recorded
abbrev pub Strays : Walked (PassState Telling) → Type 0
Strays w = (w.stopped ≡ true) × (w.state.state.astray ≡ true)

module _ (State : Type 0) where
  -- The lines that a walk runs, and a later one that uses the codes of these lines: the same walk
  -- if the first one ended; if that was incomplete, one that runs a line that isn't recorded.
  record Resumes (w : Walked (PassState State)) (before : List Visit) (again : List Code → Walked (PassState Telling)) : Type 0 where
    news : List Visit
    adds : w.state.visits ≡ before ++ news
    ended : w.stopped ≡ false → (more : List Code) → again (answers_of news ++ more) ≡ walked w.opinion (pass_state more w.state.visits (telling []))
    put_off : w.stopped ≡ true → Strays (again (answers_of news))

  nothing_resumes : (o : Opinion) (g : PassState State) → Resumes (walked o g) g.visits (λ past. walked o (pass_state past g.visits (telling [])))
  nothing_resumes o g = record { news = []; adds = sym (append-nil g.visits); ended = λ e more. refl; put_off = λ e. absurd (true≢false (sym e)) }

  onward_resumes : (next : Next) (f : ℕ → Walked (PassState State)) (f' : ℕ → List Code → Walked (PassState Telling)) (w : Walked (PassState State)) (w' : List Code → Walked (PassState Telling)) (before : List Visit)
      → ((n : ℕ) → Resumes (f n) before (f' n)) → Resumes w before w' → Resumes (onward next f w) before (λ past. onward next (λ n. f' n past) (w' past))
  onward_resumes (after n) f f' w w' before each here = each n
  onward_resumes stop f f' w w' before each here = here

  -- after a walk that ended
  past_walk : (v : Walked (PassState State)) (before : List Visit) (again : List Code → Walked (PassState Telling)) (w : Walked (PassState State)) (f : Walked (PassState Telling) → Walked (PassState Telling))
      → Resumes v before again → v.stopped ≡ false → Resumes w v.state.visits (λ past. f (walked v.opinion (pass_state past v.state.visits (telling [])))) → Resumes w before (λ past. f (again past))
  past_walk v before again w f one ends two = record {
    news = one.news ++ two.news;
    adds = two.adds ∙ ap (λ (xs : List Visit). xs ++ two.news) one.adds ∙ append_assoc before one.news two.news;
    ended = λ e more.
        ap (λ (cs : List Code). f (again (cs ++ more))) (answers_of-append one.news two.news) ∙ ap (λ (cs : List Code). f (again cs)) (append_assoc (answers_of one.news) (answers_of two.news) more)
        ∙ ap f (one.ended ends (answers_of two.news ++ more)) ∙ two.ended e more;
    put_off = λ e. subst Strays (sym (ap (λ (cs : List Code). f (again cs)) (answers_of-append one.news two.news) ∙ ap f (one.ended ends (answers_of two.news)))) (two.put_off e);
  }

  -- a substack
  sub_resumes : (b : Bool) (inside : Walked (PassState State)) (before : List Visit) (again : List Code → Walked (PassState Telling)) (w : Walked (PassState State)) (f : Walked (PassState Telling) → Walked (PassState Telling))
      → inside.stopped ≡ b → Resumes inside before again
      → Resumes w inside.state.visits (λ past. f (walked inside.opinion (pass_state past inside.state.visits (telling []))))
      → Resumes (if b then inside else w) before (λ past. if (again past).stopped then again past else f (again past))
  sub_resumes true inside before again w f is one two = record {
    news = one.news;
    adds = one.adds;
    ended = λ e. absurd (true≢false (sym is ∙ e));
    put_off = λ e. subst Strays (sym (ap (λ (b : Bool). if b then again (answers_of one.news) else f (again (answers_of one.news))) (one.put_off e).0)) (one.put_off e);
  }
  sub_resumes false inside before again w f is one two =
      past_walk inside before again w (λ x. if x.stopped then x else f x) one is two

  -- ---- a line

  module _ (kind : PassKind) (kept later : KeptAnswers) (answering : Answering State) (same : (place : ℕ) (answer : Code) → decides kind later place answer ≡ decides kind kept place answer) where
    abbrev served_later : Rule → ℕ → List Code → List Visit → Served (PassState Telling)
    served_later rule at past visits = served_past kind later replaying rule at past visits (telling [])

    -- what is known of a line that is run, and of one that leaves the walk incomplete
    record LineResumes (v : Served (PassState State)) (rule : Rule) (at : ℕ) (visits : List Visit) : Type 0 where
      on : v.stopped ≡ false → v.state.visits ≡ visits ++ visit at v.answer ∷ []
      off : v.stopped ≡ true → v.state.visits ≡ visits
      deciding : v.deciding ≡ decides kind kept at v.answer

    visits_if : (b c : Bool) (x y : List Visit) → b ≡ c → (if b then x else y) ≡ (if c then x else y)
    visits_if b c x y is = ap (λ (d : Bool). if d then x else y) is

    line_resumes : (rule : Rule) (at : ℕ) (past : List Code) (visits : List Visit) (s : State)
        → LineResumes (served_past kind kept answering rule at past visits s) rule at visits
    line_resumes rule at [] visits s = record {
      on = λ e. visits_if (is_incomplete (answering rule at s).answer) false visits (visits ++ visit at (answering rule at s).answer ∷ []) e;
      off = λ e. visits_if (is_incomplete (answering rule at s).answer) true visits (visits ++ visit at (answering rule at s).answer ∷ []) e;
      deciding = refl;
    }
    line_resumes rule at (p ∷ past) visits s = record { on = λ e. refl; off = λ e. absurd (true≢false (sym e)); deciding = refl }

    later_is : (rule : Rule) (at : ℕ) (v : Served (PassState State)) (visits : List Visit) (more : List Code) → LineResumes v rule at visits → v.stopped ≡ false
        → served_later rule at (v.answer ∷ more) visits ≡ record { answer = v.answer; deciding = v.deciding; stopped = false; state = pass_state more v.state.visits (telling []) }
    later_is rule at v visits more is runs =
        ap (λ (d : Code). record { answer = v.answer; deciding = d; stopped = false; state = pass_state more (visits ++ visit at v.answer ∷ []) (telling []) }) (same at v.answer ∙ sym is.deciding)
        ∙ ap (λ (vs : List Visit). record { answer = v.answer; deciding = v.deciding; stopped = false; state = pass_state more vs (telling []) }) (sym (is.on runs))

    walks_by_line : (b : Bool) (rule : Rule) (at : ℕ) (v : Served (PassState State)) (visits : List Visit) (o : Opinion) (w : Walked (PassState State)) (f : Served (PassState Telling) → Walked (PassState Telling))
        → v.stopped ≡ b → LineResumes v rule at visits
        → Strays (f (served_later rule at [] visits))
        → (b ≡ false → Resumes w v.state.visits (λ past. f (record { answer = v.answer; deciding = v.deciding; stopped = false; state = pass_state past v.state.visits (telling []) })))
        → Resumes (if b then halted o v.state else w) visits (λ past. f (served_later rule at past visits))
    walks_by_line true rule at v visits o w f is met strays rest = record {
      news = [];
      adds = met.off is ∙ sym (append-nil visits);
      ended = λ e. absurd (true≢false e);
      put_off = λ e. strays;
    }
    walks_by_line false rule at v visits o w f is met strays rest =
        let two : Resumes w v.state.visits (λ past. f (record { answer = v.answer; deciding = v.deciding; stopped = false; state = pass_state past v.state.visits (telling []) })) = rest refl in
        record {
          news = visit at v.answer ∷ two.news;
          adds = two.adds ∙ ap (λ (xs : List Visit). xs ++ two.news) (met.on is) ∙ append_assoc visits (visit at v.answer ∷ []) two.news;
          ended = λ e more. ap f (later_is rule at v visits (answers_of two.news ++ more) met is) ∙ two.ended e more;
          put_off = λ e. subst Strays (sym (ap f (later_is rule at v visits (answers_of two.news) met is))) (two.put_off e);
        }

    resumes : (t : Stack) (n at : ℕ) (entry o : Opinion) (g : PassState State)
        → Resumes (walk kind (serving kind kept answering) n t at entry o g) g.visits (λ past. walk kind (serving kind later replaying) n t at entry o (pass_state past g.visits (telling [])))
    resumes none n at entry o g = nothing_resumes o g
    resumes (line rule t) (suc n) at entry o g = resumes t n (at + 1) entry o g
    resumes (sub inner t) (suc n) at entry o g = resumes t n (at + lines_in inner) entry o g
    resumes (line rule t) zero at entry o g =
        let left : ℕ = count t in
        let v : Served (PassState State) = serving kind kept answering rule at g in
        let new : Opinion = acted kind (action_at rule.control v.deciding) v.answer v.deciding entry o in
        let last : Opinion = new_or_overrun (action_at rule.control v.deciding) left new in
        let next : Next = next_of (action_at rule.control v.deciding) left new in
        let on : Served (PassState Telling) → Walked (PassState Telling) = λ x.
        let new' : Opinion = acted kind (action_at rule.control x.deciding) x.answer x.deciding entry o in
        let last' : Opinion = new_or_overrun (action_at rule.control x.deciding) left new' in
        if x.stopped then halted o x.state
        else onward (next_of (action_at rule.control x.deciding) left new') (λ n. walk kind (serving kind later replaying) n t (at + 1) entry last' x.state) (walked last' x.state) in
        walks_by_line v.stopped rule at v g.visits o _ on refl (line_resumes rule at g.past g.visits g.state) (refl, refl)
        (λ runs. onward_resumes next _ _ _ _ v.state.visits (λ n. resumes t n (at + 1) entry last v.state) (nothing_resumes last v.state))
    resumes (sub inner t) zero at entry o g =
        let inside : Walked (PassState State) = walk kind (serving kind kept answering) zero inner at o o g in
        sub_resumes inside.stopped inside g.visits _ _ (λ x. walk kind (serving kind later replaying) zero t (at + lines_in inner) entry x.opinion x.state) refl (resumes inner zero at o o g)
        (resumes t zero (at + lines_in inner) entry inside.opinion inside.state)

pub resumes_asking : (State : Type 0) → ResumesAsking State
resumes_asking State kind kept later answering stack past s same stops =
    let r : Resumes State (pass_after kind kept answering stack past s) [] (λ given. pass_after kind later replaying stack given (telling [])) =
    resumes State kind kept later answering same stack 0 1 opening opening (pass_state past [] s) in
    subst (λ (vs : List Visit). Strays (pass_after kind later replaying stack (answers_of vs) (telling []))) (sym r.adds) (r.put_off stops)
