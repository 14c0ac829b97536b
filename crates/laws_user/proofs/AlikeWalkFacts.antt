-- Two walks over one stack whose states are related stay related, if each of its lines relates them.
use Rattle.std.proofs.Common.{◌≡◌, ℕ, zero, suc, ◌+◌, Bool, true, false, if◌then◌else◌, List, [], ◌∷◌, refl, subst}
use Rattle.pam_base.specs.declared.code.Code.{Code}
use Rattle.control_words.specs.declared.control.Action.{Action}
use Rattle.control_words.specs.declared.nodes.Rule.{Rule}
use Rattle.control_words.specs.Control.{action_at}
use Rattle.control_words.specs.Stack.{Stack, none, line, sub, count, lines_in}
use Rattle.handler_chain.specs.declared.opinion.Opinion.{Opinion}
use Rattle.handler_chain.specs.declared.pass_kind.PassKind.{PassKind}
use Rattle.handler_chain.specs.Opinion.{acted, opening}
use Rattle.handler_chain.specs.Walk.{Served, Serving, Walked, Next, after, stop, walked, halted, next_of, new_or_overrun, onward, walk}
use Rattle.handler_chain.specs.Pass.{Answered, Answering, PassState, Visit, pass_state, pass_after, served_now, served_past, serving}
use Rattle.handler_chain.specs.Route.{KeptAnswers}
use Rattle.laws_denial.specs.Kept_out.{EachLine}

-- ---- any walk

module _ {State : Type 0} (R : State → State → Type 0) where
  -- two results are the same except for their states, which are related
  pub record ServedAlike (a b : Served State) : Type 0 where
    pub rest : record a { state = b.state } ≡ b
    pub state : R a.state b.state

  pub record WalkedAlike (a b : Walked State) : Type 0 where
    pub rest : record a { state = b.state } ≡ b
    pub state : R a.state b.state

  abbrev ServesAlike : Serving State → ℕ → Rule → Type 0
  ServesAlike serve at rule = (s t : State) → R s t → ServedAlike (serve rule at s) (serve rule at t)

  -- what follows a line, by its result, and what follows a substack
  abbrev past_line : PassKind → Serving State → Rule → Stack → ℕ → Opinion → Opinion → Served State → Walked State
  past_line kind serve rule rest at entry opinion served =
      let action = action_at rule.control served.deciding in
      let new = acted kind action served.answer served.deciding entry opinion in
      let last = new_or_overrun action (count rest) new in
      if served.stopped then halted opinion served.state
      else onward (next_of action (count rest) new) (λ n. walk kind serve n rest (at + 1) entry last served.state) (walked last served.state)

  abbrev past_sub : PassKind → Serving State → Stack → ℕ → Opinion → Walked State → Walked State
  past_sub kind serve rest at entry inside = if inside.stopped then inside else walk kind serve zero rest at entry inside.opinion inside.state

  module _ (kind : PassKind) (serve : Serving State) where
    onward_alike : (next : Next) (rest : Stack) (at : ℕ) (entry last : Opinion) (s t : State) → R s t
        → ((n : ℕ) → WalkedAlike (walk kind serve n rest at entry last s) (walk kind serve n rest at entry last t))
        → WalkedAlike (onward next (λ n. walk kind serve n rest at entry last s) (walked last s))
        (onward next (λ n. walk kind serve n rest at entry last t) (walked last t))
    onward_alike (after n) rest at entry last s t r more = more n
    onward_alike stop rest at entry last s t r more = record { rest = refl; state = r }

    line_alike : (rule : Rule) (rest : Stack) (at : ℕ) (entry opinion : Opinion) (a : Served State) (t : State) → R a.state t
        → ((n : ℕ) (last : Opinion) → WalkedAlike (walk kind serve n rest (at + 1) entry last a.state) (walk kind serve n rest (at + 1) entry last t))
        → WalkedAlike (past_line kind serve rule rest at entry opinion a) (past_line kind serve rule rest at entry opinion (record a { state = t }))
    line_alike rule rest at entry opinion a t r more =
        let action : Action = action_at rule.control a.deciding in
        let new : Opinion = acted kind action a.answer a.deciding entry opinion in
        let last : Opinion = new_or_overrun action (count rest) new in
        elim a.stopped as (λ (x : Bool). WalkedAlike
        (if x then halted opinion a.state
        else onward (next_of action (count rest) new) (λ n. walk kind serve n rest (at + 1) entry last a.state) (walked last a.state))
        (if x then halted opinion t
        else onward (next_of action (count rest) new) (λ n. walk kind serve n rest (at + 1) entry last t) (walked last t))) [
          | true ↦ record { rest = refl; state = r }
          | false ↦ onward_alike (next_of action (count rest) new) rest (at + 1) entry last a.state t r (λ n. more n last)
        ]

    sub_alike : (rest : Stack) (at : ℕ) (entry : Opinion) (a : Walked State) (t : State) → R a.state t
        → WalkedAlike (walk kind serve zero rest at entry a.opinion a.state) (walk kind serve zero rest at entry a.opinion t)
        → WalkedAlike (past_sub kind serve rest at entry a) (past_sub kind serve rest at entry (record a { state = t }))
    sub_alike rest at entry a t r more = elim a.stopped as (λ (x : Bool). WalkedAlike
        (if x then a else walk kind serve zero rest at entry a.opinion a.state)
        (if x then record a { state = t } else walk kind serve zero rest at entry a.opinion t)) [
          | true ↦ record { rest = refl; state = r }
          | false ↦ more
        ]

    walk_alike : (skip : ℕ) (stack : Stack) (at : ℕ) (entry opinion : Opinion) (s t : State) → EachLine (ServesAlike serve) at stack → R s t
        → WalkedAlike (walk kind serve skip stack at entry opinion s) (walk kind serve skip stack at entry opinion t)
    walk_alike skip none at entry opinion s t each r = record { rest = refl; state = r }
    walk_alike (suc skip) (line rule rest) at entry opinion s t each r = walk_alike skip rest (at + 1) entry opinion s t each.1 r
    walk_alike (suc skip) (sub inner rest) at entry opinion s t each r = walk_alike skip rest (at + lines_in inner) entry opinion s t each.1 r
    walk_alike zero (line rule rest) at entry opinion s t each r =
        let a : Served State = serve rule at s in
        let b : Served State = serve rule at t in
        let alike : ServedAlike a b = each.0 s t r in
        subst (λ (x : Served State). WalkedAlike (past_line kind serve rule rest at entry opinion a) (past_line kind serve rule rest at entry opinion x))
        alike.rest
        (line_alike rule rest at entry opinion a b.state alike.state (λ n last. walk_alike n rest (at + 1) entry last a.state b.state each.1 alike.state))
    walk_alike zero (sub inner rest) at entry opinion s t each r =
        let a : Walked State = walk kind serve zero inner at opinion opinion s in
        let b : Walked State = walk kind serve zero inner at opinion opinion t in
        let alike : WalkedAlike a b = walk_alike zero inner at opinion opinion s t each.0 r in
        let on : ℕ = at + lines_in inner in
        subst (λ (x : Walked State). WalkedAlike (past_sub kind serve rest on entry a) (past_sub kind serve rest on entry x)) alike.rest
        (sub_alike rest on entry a b.state alike.state (walk_alike zero rest on entry a.opinion a.state b.state each.1 alike.state))

-- ---- a pass

module _ {State : Type 0} (R : State → State → Type 0) where
  pub record PassAlike (p q : PassState State) : Type 0 where
    pub rest : record p { state = q.state } ≡ q
    pub state : R p.state q.state

  abbrev pub AsksAlike : Answering State → ℕ → Rule → Type 0
  AsksAlike answering at rule = (s t : State) → R s t
      → ((answering rule at s).answer ≡ (answering rule at t).answer) × R (answering rule at s).state (answering rule at t).state

  module _ (kind : PassKind) (kept : KeptAnswers) (answering : Answering State) where
    now_alike : (at : ℕ) (visits : List Visit) (x y : Answered State) → x.answer ≡ y.answer → R x.state y.state
        → ServedAlike PassAlike (served_now kind kept at visits x) (served_now kind kept at visits y)
    now_alike at visits x y same r =
        subst (λ (c : Code). ServedAlike PassAlike (served_now kind kept at visits x) (served_now kind kept at visits (record y { answer = c }))) same
        (record { rest = refl; state = record { rest = refl; state = r } })

    past_alike : (rule : Rule) (at : ℕ) (past : List Code) (visits : List Visit) (s t : State) → AsksAlike answering at rule → R s t
        → ServedAlike PassAlike (served_past kind kept answering rule at past visits s) (served_past kind kept answering rule at past visits t)
    past_alike rule at [] visits s t asks r = let a = asks s t r in now_alike at visits (answering rule at s) (answering rule at t) a.0 a.1
    past_alike rule at (p ∷ past) visits s t asks r = record { rest = refl; state = record { rest = refl; state = r } }

    serving_alike : (at : ℕ) (rule : Rule) → AsksAlike answering at rule → ServesAlike PassAlike (serving kind kept answering) at rule
    serving_alike at rule asks p q r =
        subst (λ (x : PassState State). ServedAlike PassAlike (serving kind kept answering rule at p) (serving kind kept answering rule at x)) r.rest
        (past_alike rule at p.past p.visits p.state q.state asks r.state)

    each_serves : (at : ℕ) (stack : Stack) → EachLine (AsksAlike answering) at stack
        → EachLine (ServesAlike PassAlike (serving kind kept answering)) at stack
    each_serves at none each = each
    each_serves at (line rule rest) each = (serving_alike at rule each.0, each_serves (at + 1) rest each.1)
    each_serves at (sub inner rest) each = (each_serves at inner each.0, each_serves (at + lines_in inner) rest each.1)

    pub pass_alike : (stack : Stack) (past : List Code) (s t : State) → EachLine (AsksAlike answering) 1 stack → R s t
        → WalkedAlike PassAlike (pass_after kind kept answering stack past s) (pass_after kind kept answering stack past t)
    pass_alike stack past s t each r =
        walk_alike PassAlike kind (serving kind kept answering) 0 stack 1 opening opening (pass_state past [] s) (pass_state past [] t)
        (each_serves 1 stack each) (record { rest = refl; state = r })
