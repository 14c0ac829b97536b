-- A run by cached codes that returns SUCCESS says yes again.
use Rattle.std.proofs.Common.{◌≡◌, ◌⊎◌, inl, inr, true, false, List, [], refl, sym, ◌∙◌, ap, subst}
use Rattle.pam_base.specs.declared.code.Code.{Code}
use Rattle.pam_base.specs.declared.code.Code.TheVariants as codes
use Rattle.control_words.specs.Stack.{Stack}
use Rattle.handler_chain.specs.declared.opinion.Opinion.{Opinion}
use Rattle.handler_chain.specs.declared.pass_kind.PassKind.TheVariants as kinds
use Rattle.handler_chain.specs.Opinion.{opening}
use Rattle.handler_chain.specs.Pass.{Answering, PassState, Visit, answers_of, kept_in, pass_after, pass_state, serving}
use Rattle.handler_chain.specs.Route.{KeptAnswers, route_from}
use Rattle.handler_chain.specs.Walk.{Walked}
use Rattle.handler_chain.proofs.Complete.{has_all}
use Rattle.handler_chain.proofs.CachedRouteFacts.{Goes, along}
use Rattle.handler_chain.proofs.Negativity.{negative_opinion}
use Rattle.handler_chain.proofs.PathLaws.{keeps_complete}
use Rattle.handler_chain.proofs.ServedLineFacts.{Agrees, Any, Any_at, Below, follow_tells, keep_finds, keep_tells, seen}
use Rattle.laws_stack.specs.Counted.{is_other}
use Rattle.laws_stack.proofs.CountedCodeFacts.{counted_failure_denies}
use Rattle.stack_ways.specs.declared.way.Way.{Way}
use Rattle.stack_ways.specs.Laws.{ArePossible, IsRunAgain}
use Rattle.stack_ways.specs.MayEnd.{CodesOf}
use Rattle.stack_ways.specs.Ways.{WaysOf}
use Rattle.stack_ways.proofs.Again.{cached_runs}
use Rattle.stack_ways.proofs.SuccessStateFacts.{by_code}
use Rattle.stack_ways.proofs.Realised.{is_run}
use Rattle.laws_way.specs.Cached.{CachedBy, CachedGrantedBy}

module _ (State : Type 0) (answering : Answering State) (stack : Stack) where
  -- once both have ended, a run by cached codes is denied if the run that cached them was
  denied_again : (before : KeptAnswers) (past later_past : List Code) (s later : State)
      → (pass_after kinds.Keep before answering stack past s).stopped ≡ false
      → (pass_after kinds.Follow (kept_in (pass_after kinds.Keep before answering stack past s).state.visits) answering stack later_past later).stopped ≡ false
      → negative_opinion (pass_after kinds.Follow (kept_in (pass_after kinds.Keep before answering stack past s).state.visits) answering stack later_past
      later).opinion ≡ negative_opinion (pass_after kinds.Keep before answering stack past s).opinion
  denied_again before past later_past s later runs ends =
      let first : Walked (PassState State) = pass_after kinds.Keep before answering stack past s in
      let kept : KeptAnswers = kept_in first.state.visits in
      let w : Walked (PassState State) = pass_after kinds.Follow kept answering stack later_past later in
      let has : (route_from kept 0 stack 1 false false).lacks ≡ false =
      has_all kept stack 0 1 false false (λ place is. keeps_complete State before answering stack past s runs place ∙ is) in
      let one : Goes (PassState State) seen [] (route_from kept 0 stack 1 false false) first =
      along (PassState State) kinds.Keep (serving kinds.Keep before answering) kept seen (Below State) (Agrees State kept)
      (keep_tells State kept before answering)
      stack 0 1 opening opening (pass_state past [] s) false false refl refl (λ place le. refl) (λ place k is. is)
      (inr (keep_finds State kept before answering)) in
      let two : Goes (PassState State) seen [] (route_from kept 0 stack 1 false false) w =
      along (PassState State) kinds.Follow (serving kinds.Follow kept answering) kept seen (Any_at State) (Any State) (follow_tells State kept answering)
      stack 0 1 opening opening (pass_state later_past [] later) false false refl refl tt tt (inl has) in
      two.negative ends ∙ sym (one.negative runs)

  -- what a run by the codes of a first one says, once it has ended
  abbrev Repeats : List Way → CodesOf → List Code → State → List Visit → Opinion → KeptAnswers → Type 0
  Repeats ways counts past s ran end kept =
      let w = pass_after kinds.Follow kept answering stack past s in
      w.stopped ≡ false → IsRunAgain counts ways ran w.state.visits end × (negative_opinion w.opinion ≡ negative_opinion end)

  repeats : (possible counts : CodesOf) (ways : List Way) (ran : List Visit) (end : Opinion) (kept : KeptAnswers) (past : List Code) (s : State)
      → WaysOf possible counts stack 1 opening ways → CachedBy possible stack ran end kept → Repeats ways counts past s ran end kept
  repeats possible counts ways ran end kept past s all cached =
      let is = is_run State possible kept answering stack ran end s cached.ends in
      let first : Walked (PassState State) = pass_after kinds.Keep kept answering stack (answers_of ran) s in
      let of_first : first.stopped ≡ false → ArePossible possible first.state.visits
      → Repeats ways counts past s first.state.visits first.opinion (kept_in first.state.visits) = λ runs are ends. (
        cached_runs State possible counts stack ways kept answering answering (answers_of ran) past s s all runs are ends,
        denied_again kept (answers_of ran) past s s runs ends,
      ) in
      let of_ran : Repeats ways counts past s ran end (kept_in ran) =
      subst (λ (f : Walked (PassState State)). f.stopped ≡ false → ArePossible possible f.state.visits
      → Repeats ways counts past s f.state.visits f.opinion (kept_in f.state.visits)) is.0 of_first refl is.1 in
      subst (Repeats ways counts past s ran end) (sym cached.kept_is) of_ran

yes_or_ignore : (code : Code) → (is_other code ≡ true → ⊥) → (code ≡ codes.Success) ⊎ (code ≡ codes.Ignore)
yes_or_ignore codes.Success never = inl refl
yes_or_ignore codes.Ignore never = inr refl
yes_or_ignore code never = absurd (never refl)

pub cached_granted_by : (State : Type 0) → CachedGrantedBy State
cached_granted_by State possible counts stack ways ran end kept answering past s all cached = λ succeeds.
    let w : Walked (PassState State) = pass_after kinds.Follow kept answering stack past s in
    let ends = by_code w.stopped w.opinion succeeds in
    let both = repeats State answering stack possible counts ways ran end kept past s all cached ends.0 in
    record {
      way = both.0;
      undenied = sym both.1 ∙ ap negative_opinion ends.1;
      again = λ before more v split counts_here calm. yes_or_ignore v.answer (λ other.
          counted_failure_denies State kinds.Follow kept answering stack past s before more v split counts_here other calm succeeds);
    }
