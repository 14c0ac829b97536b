-- A run without cached codes runs the lines of the first run that the same modules would give.
use Rattle.std.proofs.Common.{◌≡◌, ℕ, zero, suc, ◌+◌, Bool, true, false, true≢false, if◌then◌else◌, List, [], ◌∷◌, refl, sym, ◌∙◌, subst}
use Rattle.pam_base.specs.declared.code.Code.{Code}
use Rattle.control_words.specs.declared.control.Action.{Action}
use Rattle.control_words.specs.declared.nodes.Rule.{Rule}
use Rattle.control_words.specs.Control.{action_at}
use Rattle.control_words.specs.Stack.{Stack, none, line, sub, count, lines_in}
use Rattle.handler_chain.specs.declared.opinion.Opinion.{Opinion}
use Rattle.handler_chain.specs.declared.pass_kind.PassKind.TheVariants as kinds
use Rattle.handler_chain.specs.Opinion.{acted, opening}
use Rattle.handler_chain.specs.Pass.{Answering, PassState, Visit, pass_after, pass_state, served_past, serving}
use Rattle.handler_chain.specs.Route.{KeptAnswers}
use Rattle.handler_chain.specs.Walk.{Next, Served, Walked, after, halted, new_or_overrun, next_of, onward, stop, walk, walked}
use Rattle.stack_ways.specs.Laws.{ArePossible}
use Rattle.stack_ways.specs.Ways.{IsListed}
use Rattle.stack_ways.proofs.SuccessStateFacts.{by_code}
use Rattle.stack_ways.proofs.Realised.{lists_all}
use Rattle.laws_way.specs.Loose.{LooseEndsByWays, LooseGoesAsFirst, LooseGrantedBy}
use Rattle.laws_way.proofs.Beside.{Beside, acted_beside, last_beside, next_same, same_beside, undenied}

module _ {State : Type 0} (kept : KeptAnswers) (answering : Answering State) where
  pub record Alongside (k l : Walked (PassState State)) : Type 0 where
    pub stopped : l.stopped ≡ k.stopped
    pub state : l.state ≡ k.state
    pub beside : Beside k.opinion l.opinion

  served_same : (rule : Rule) (at : ℕ) (past : List Code) (visits : List Visit) (s : State)
      → served_past kinds.Loose kept answering rule at past visits s ≡ served_past kinds.Keep kept answering rule at past visits s
  served_same rule at [] visits s = refl
  served_same rule at (p ∷ past) visits s = refl

  onward_alongside : (next : Next) (f g : ℕ → Walked (PassState State)) (w v : Walked (PassState State)) → ((n : ℕ) → Alongside (f n) (g n)) → Alongside w v
      → Alongside (onward next f w) (onward next g v)
  onward_alongside (after n) f g w v each here = each n
  onward_alongside stop f g w v each here = here

  if_alongside : (b c : Bool) (x y v w : Walked (PassState State)) → c ≡ b → Alongside x v → Alongside y w
      → Alongside (if b then x else y) (if c then v else w)
  if_alongside true true x y v w is one two = one
  if_alongside false false x y v w is one two = two
  if_alongside true false x y v w is one two = absurd (true≢false (sym is))
  if_alongside false true x y v w is one two = absurd (true≢false is)

  abbrev first : ℕ → Stack → ℕ → Opinion → Opinion → PassState State → Walked (PassState State)
  first skip stack at entry k p = walk kinds.Keep (serving kinds.Keep kept answering) skip stack at entry k p

  abbrev loose : ℕ → Stack → ℕ → Opinion → Opinion → PassState State → Walked (PassState State)
  loose skip stack at entry l p = walk kinds.Loose (serving kinds.Loose kept answering) skip stack at entry l p

  goes : (skip : ℕ) (stack : Stack) (at : ℕ) (entry other k l : Opinion) (p : PassState State) → Beside entry other → Beside k l
      → Alongside (first skip stack at entry k p) (loose skip stack at other l p)
  goes skip none at entry other k l p entries now = record { stopped = refl; state = refl; beside = now }
  goes (suc skip) (line rule rest) at entry other k l p entries now = goes skip rest (at + 1) entry other k l p entries now
  goes (suc skip) (sub inner rest) at entry other k l p entries now = goes skip rest (at + lines_in inner) entry other k l p entries now
  goes zero (line rule rest) at entry other k l p entries now =
      let left : ℕ = count rest in
      let v : Served (PassState State) = serving kinds.Keep kept answering rule at p in
      let a : Action = action_at rule.control v.deciding in
      let new : Opinion = acted kinds.Keep a v.answer v.deciding entry k in
      let later : Opinion = acted kinds.Loose a v.answer v.deciding other l in
      let f : ℕ → Walked (PassState State) = λ n. first n rest (at + 1) entry (new_or_overrun a left new) v.state in
      let g : ℕ → Walked (PassState State) = λ n. loose n rest (at + 1) other (new_or_overrun a left later) v.state in
      let last : Beside (new_or_overrun a left new) (new_or_overrun a left later) =
      last_beside a left new later (acted_beside a v.answer v.deciding entry other k l entries now) in
      let on : Served (PassState State) → Walked (PassState State) = λ x.
      let b : Action = action_at rule.control x.deciding in
      let after_it : Opinion = acted kinds.Loose b x.answer x.deciding other l in
      if x.stopped then halted l x.state
      else onward (next_of b left after_it) (λ n. loose n rest (at + 1) other (new_or_overrun b left after_it) x.state)
      (walked (new_or_overrun b left after_it) x.state) in
      let ended : Alongside (walked (new_or_overrun a left new) v.state) (walked (new_or_overrun a left later) v.state) =
      record { stopped = refl; state = refl; beside = last } in
      let rests : Alongside (onward (next_of a left new) f (walked (new_or_overrun a left new) v.state))
      (onward (next_of a left later) g (walked (new_or_overrun a left later) v.state)) =
      subst (λ (next : Next). Alongside (onward (next_of a left new) f (walked (new_or_overrun a left new) v.state))
      (onward next g (walked (new_or_overrun a left later) v.state)))
      (next_same a v.answer v.deciding left entry other k l entries now)
      (onward_alongside (next_of a left new) f g _ _
      (λ n. goes n rest (at + 1) entry other (new_or_overrun a left new) (new_or_overrun a left later) v.state entries last) ended) in
      let stays : Alongside (halted k v.state) (halted l v.state) = record { stopped = refl; state = refl; beside = now } in
      subst (λ (x : Served (PassState State)). Alongside (first 0 (line rule rest) at entry k p) (on x))
      (sym (served_same rule at p.past p.visits p.state))
      (if_alongside v.stopped v.stopped _ _ _ _ refl stays rests)
  goes zero (sub inner rest) at entry other k l p entries now =
      let inside : Walked (PassState State) = first 0 inner at k k p in
      let within : Walked (PassState State) = loose 0 inner at l l p in
      let one : Alongside inside within = goes 0 inner at k l k l p now now in
      let two : Alongside (first 0 rest (at + lines_in inner) entry inside.opinion inside.state)
      (loose 0 rest (at + lines_in inner) other within.opinion inside.state) =
      goes 0 rest (at + lines_in inner) entry other inside.opinion within.opinion inside.state entries one.beside in
      if_alongside inside.stopped within.stopped _ _ _ _ one.stopped one
      (subst (λ (g : PassState State). Alongside (first 0 rest (at + lines_in inner) entry inside.opinion inside.state)
      (loose 0 rest (at + lines_in inner) other within.opinion g)) (sym one.state) two)

  pub alongside : (stack : Stack) (past : List Code) (s : State)
      → Alongside (pass_after kinds.Keep kept answering stack past s) (pass_after kinds.Loose kept answering stack past s)
  alongside stack past s = goes 0 stack 1 opening opening opening opening (pass_state past [] s) (same_beside opening) (same_beside opening)

-- ---- the laws

pub goes_as_first : (State : Type 0) → LooseGoesAsFirst State
goes_as_first State kept answering stack past s =
    let k : Walked (PassState State) = pass_after kinds.Keep kept answering stack past s in
    let l : Walked (PassState State) = pass_after kinds.Loose kept answering stack past s in
    let a : Alongside kept answering k l = alongside kept answering stack past s in
    record {
      stopped = a.stopped;
      state = a.state;
      denied = a.beside.denied;
      success = λ succeeds. undenied k.opinion l.opinion a.beside (by_code l.stopped l.opinion succeeds).1;
    }

pub ends_by_ways : (State : Type 0) → LooseEndsByWays State
ends_by_ways State possible counts stack ways kept answering past s all = λ runs are.
    let k : Walked (PassState State) = pass_after kinds.Keep kept answering stack past s in
    let l : Walked (PassState State) = pass_after kinds.Loose kept answering stack past s in
    let a : Alongside kept answering k l = alongside kept answering stack past s in
    let listed : IsListed counts ways k.state.visits k.opinion =
    lists_all State possible counts stack ways kept answering past s all (sym a.stopped ∙ runs)
    (subst (λ (g : PassState State). ArePossible possible g.visits) a.state are) in
    record {
      first = k.opinion;
      listed = subst (λ (g : PassState State). IsListed counts ways g.visits k.opinion) (sym a.state) listed;
      denied = a.beside.denied;
    }

pub loose_granted_by : (State : Type 0) → LooseGrantedBy State
loose_granted_by State possible counts stack ways kept answering past s all = λ are succeeds.
    let k : Walked (PassState State) = pass_after kinds.Keep kept answering stack past s in
    let l : Walked (PassState State) = pass_after kinds.Loose kept answering stack past s in
    let ends = by_code l.stopped l.opinion succeeds in
    let a : Alongside kept answering k l = alongside kept answering stack past s in
    let listed : IsListed counts ways k.state.visits k.opinion =
    lists_all State possible counts stack ways kept answering past s all (sym a.stopped ∙ ends.0)
    (subst (λ (g : PassState State). ArePossible possible g.visits) a.state are) in
    record {
      end = k.opinion;
      listed = subst (λ (g : PassState State). IsListed counts ways g.visits k.opinion) (sym a.state) listed;
      undenied = undenied k.opinion l.opinion a.beside ends.1;
    }
