-- A run by cached codes runs the lines of the run that cached them, so those of its way, too.
use Rattle.std.proofs.Common.{◌≡◌, ℕ, Bool, true, false, if◌then◌else◌, List, [], ◌∷◌, ◌++◌, inl, inr, sym, ◌∙◌, ap, subst, append-nil}
use Rattle.std.proofs.lemmas.List.Elements.{Contains-append_left, Contains-append_right, Contains-append_cases}
use Rattle.std.specs.List.{Contains}
use Rattle.handler_chain.specs.declared.opinion.Opinion.{Opinion}
use Rattle.handler_chain.specs.declared.pass_kind.PassKind.TheVariants as kinds
use Rattle.handler_chain.specs.Pass.{Visit, PassState, kept_in, pass_after, places_of}
use Rattle.handler_chain.specs.Walk.{Walked}
use Rattle.handler_chain.proofs.PathLaws.{follows_keep}
use Rattle.stack_ways.specs.MayEnd.{CodesOf, mark_of, marks_of}
use Rattle.stack_ways.specs.Laws.{CachedRunsGoByWays, GrantedRunsAgain, IsRunAgain}
use Rattle.stack_ways.specs.Ways.{IsListed}
use Rattle.stack_ways.proofs.WayListFacts.{none_in}
use Rattle.stack_ways.proofs.SuccessStateFacts.{by_code}
use Rattle.stack_ways.proofs.Realised.{lists_all}

marked_here : (b : Bool) (x place : ℕ) → Contains (if b then x ∷ [] else []) place → Contains (x ∷ []) place
marked_here true x place here = here
marked_here false x place here = absurd (none_in place here)

-- a line that counted was run
marked_ran : (counts : CodesOf) (ran : List Visit) (place : ℕ) → Contains (marks_of counts ran) place → Contains (places_of ran) place
marked_ran counts [] place here = here
marked_ran counts (v ∷ ran) place here = elim (Contains-append_cases (mark_of counts v.place v.answer) (marks_of counts ran) place here) [
  | inl first ↦ Contains-append_left (v.place ∷ []) (places_of ran) place (marked_here (counts v.place v.answer) v.place place first)
  | inr more ↦ Contains-append_right (v.place ∷ []) (places_of ran) place (marked_ran counts ran place more)
]

none_left : (visited places left : List ℕ) → visited ++ left ≡ places → left ≡ [] → places ≡ visited
none_left visited places left whole none = sym whole ∙ ap (λ (l : List ℕ). visited ++ l) none ∙ append-nil visited

pub cached_runs : (State : Type 0) → CachedRunsGoByWays State
cached_runs State possible counts stack ways kept answering later_answering past later_past s later all = λ runs are ends.
    let first : Walked (PassState State) = pass_after kinds.Keep kept answering stack past s in
    let w : Walked (PassState State) = pass_after kinds.Follow (kept_in first.state.visits) later_answering stack later_past later in
    let listed : IsListed counts ways first.state.visits first.opinion = lists_all State possible counts stack ways kept answering past s all runs are in
    let follows = follows_keep State kept answering later_answering stack past later_past s later runs in
    let same = none_left (places_of w.state.visits) (places_of first.state.visits) follows.left follows.in_order (follows.whole ends) in
    record {
      way = listed.way;
      among = listed.among;
      opinion = listed.opinion;
      marks = listed.marks;
      again = λ place marked. subst (λ (ps : List ℕ). Contains ps place) same (marked_ran counts first.state.visits place (listed.marks place marked));
    }

pub granted_runs : (State : Type 0) → GrantedRunsAgain State
granted_runs State possible counts stack ways kept answering later_answering past later_past s later all = λ are succeeds ends.
    let first : Walked (PassState State) = pass_after kinds.Keep kept answering stack past s in
    let w : Walked (PassState State) = pass_after kinds.Follow (kept_in first.state.visits) later_answering stack later_past later in
    let is = by_code first.stopped first.opinion succeeds in
    subst (λ (o : Opinion). IsRunAgain counts ways first.state.visits w.state.visits o) is.1
    (cached_runs State possible counts stack ways kept answering later_answering past later_past s later all is.0 are ends)
