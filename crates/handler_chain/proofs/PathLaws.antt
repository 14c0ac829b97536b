-- The path law.
use Rattle.std.proofs.Common.{◌≡◌, ℕ, false, nat_eq, inl, inr, List, [], ◌++◌, refl, sym, ◌∙◌, ap, subst, append-nil}
use Rattle.std.specs.List.{list_any}
use Rattle.handler_chain.specs.declared.pass_kind.PassKind.TheVariants as kinds
use Rattle.handler_chain.specs.Opinion.{opening}
use Rattle.handler_chain.specs.Walk.{Walked}
use Rattle.handler_chain.specs.Route.{KeptAnswers, route_from, route}
use Rattle.handler_chain.specs.Pass.{PassState, serving, pass_state, kept_in, places_of, pass_after}
use Rattle.handler_chain.specs.PathLaw.{KeepsComplete, KeepsRoute, Follows, FollowsKeep, FollowsRoute, FindsKept}
use Rattle.handler_chain.proofs.CachedRouteFacts.{Goes, along}
use Rattle.handler_chain.proofs.CachedCodeFacts.{kept-places}
use Rattle.handler_chain.proofs.Complete.{on_first, has_all}
use Rattle.handler_chain.proofs.ServedLineFacts.{seen, Any_at, Any, Below, Agrees, follow_tells, keep_tells, keep_finds}

pub keeps_route : (State : Type 0) → KeepsRoute State
keeps_route State before answering stack past s = λ runs.
    let w : Walked (PassState State) = pass_after kinds.Keep before answering stack past s in
    let kept : KeptAnswers = kept_in w.state.visits in
    let goes : Goes (PassState State) seen [] (route_from kept 0 stack 1 false false) w =
    along (PassState State) kinds.Keep (serving kinds.Keep before answering) kept seen (Below State) (Agrees State kept) (keep_tells State kept before answering)
    stack 0 1 opening opening (pass_state past [] s) false false refl refl (λ place le. refl) (λ place k is. is) (inr (keep_finds State kept before answering)) in
    goes.places ∙ ap (λ (xs : List ℕ). places_of w.state.visits ++ xs) (goes.ended runs) ∙ append-nil (places_of w.state.visits)

pub keeps_complete : (State : Type 0) → KeepsComplete State
keeps_complete State before answering stack past s = λ runs place.
    kept-places (pass_after kinds.Keep before answering stack past s).state.visits place ∙ ap (list_any (nat_eq place)) (sym (keeps_route State before answering stack past s runs))

pub follows_route : (State : Type 0) → FollowsRoute State
follows_route State answering stack kept past s complete =
    let w : Walked (PassState State) = pass_after kinds.Follow kept answering stack past s in
    let has : (route_from kept 0 stack 1 false false).lacks ≡ false = has_all kept stack 0 1 false false (λ place is. complete place ∙ is) in
    let goes : Goes (PassState State) seen [] (route_from kept 0 stack 1 false false) w =
    along (PassState State) kinds.Follow (serving kinds.Follow kept answering) kept seen (Any_at State) (Any State) (follow_tells State kept answering)
    stack 0 1 opening opening (pass_state past [] s) false false refl refl tt tt (inl has) in
    record { left = goes.left; in_order = sym goes.places; whole = goes.ended; fewer = goes.fewer }

pub finds_kept : (State : Type 0) → FindsKept State
finds_kept State answering stack kept past s complete place = λ is.
    let w : Walked (PassState State) = pass_after kinds.Follow kept answering stack past s in
    let follows : Follows (route stack kept) (places_of w.state.visits) w.stopped = follows_route State answering stack kept past s complete in
    complete place ∙ sym (ap (list_any (nat_eq place)) follows.in_order) ∙ on_first place (places_of w.state.visits) follows.left is

pub follows_keep : (State : Type 0) → FollowsKeep State
follows_keep State before answering later_answering stack past later_past s later = λ runs.
    let kept : Walked (PassState State) = pass_after kinds.Keep before answering stack past s in
    let w : Walked (PassState State) = pass_after kinds.Follow (kept_in kept.state.visits) later_answering stack later_past later in
    subst (λ (places : List ℕ). Follows places (places_of w.state.visits) w.stopped) (keeps_route State before answering stack past s runs)
    (follows_route State later_answering stack (kept_in kept.state.visits) later_past later (keeps_complete State before answering stack past s runs))
