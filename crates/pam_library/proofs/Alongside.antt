-- Two walks over one stack whose states are related stay related, whatever the states are.
use Rattle.std.proofs.Common.{◌≡◌, ℕ, zero, suc, ◌+◌, Bool, true, false, if◌then◌else◌, List, [], ◌∷◌, refl, subst}
use Rattle.pam_base.specs.declared.code.Code.{Code}
use Rattle.pam_handle.specs.control_words.specs.declared.control.Action.{Action}
use Rattle.pam_handle.specs.control_words.specs.declared.nodes.Rule.{Rule}
use Rattle.pam_handle.specs.control_words.specs.Control.{action_at}
use Rattle.pam_handle.specs.control_words.specs.Stack.{Stack, none, line, sub, count, lines_in}
use Rattle.pam_handle.specs.handler_chain.specs.declared.opinion.Opinion.{Opinion}
use Rattle.pam_handle.specs.handler_chain.specs.declared.pass_kind.PassKind.{PassKind}
use Rattle.pam_handle.specs.handler_chain.specs.Opinion.{acted, opening}
use Rattle.pam_handle.specs.handler_chain.specs.Walk.{Served, Serving, Walked, Next, after, stop, walked, halted, next_of, new_or_overrun, onward, walk}
use Rattle.pam_handle.specs.handler_chain.specs.Pass.{Answered, Answering, PassState, Visit, pass_state, pass_after, served_now, served_past, serving}
use Rattle.pam_handle.specs.handler_chain.specs.Route.{KeptAnswers}

-- ---- any walk

module _ {State : Type 0} (R : State → State → Type 0) where
  -- two results are the same except for their states, which are related
  pub record ServedTwins (a b : Served State) : Type 0 where
    pub rest : record a { state = b.state } ≡ b
    pub state : R a.state b.state

  pub record WalkedTwins (a b : Walked State) : Type 0 where
    pub rest : record a { state = b.state } ≡ b
    pub state : R a.state b.state

  abbrev pub ServesTwins : Serving State → Type 0
  ServesTwins serve = (rule : Rule) (at : ℕ) (s t : State) → R s t → ServedTwins (serve rule at s) (serve rule at t)

  -- what follows a line, by its result, and what follows a substack
  abbrev past_line : PassKind → Serving State → Rule → Stack → ℕ → Opinion → Opinion → Served State → Walked State
  past_line kind serve rule rest at entry opinion served =
      let action = action_at rule.control served.deciding in
      let new = acted kind action served.answer served.deciding entry opinion in
      let last = new_or_overrun action (count rest) new in
      if served.stopped then halted opinion served.state
      else onward (next_of action (count rest) new) (λ n. walk kind serve n rest (at + 1) entry last served.state) (walked last served.state)

  abbrev past_sub : PassKind → Serving State → Stack → ℕ → Opinion → Walked State → Walked State
  past_sub kind serve rest at entry inside = if inside.stopped then inside else walk kind serve zero rest at entry inside.opinion inside.state

  module _ (kind : PassKind) (serve : Serving State) (serves : ServesTwins serve) where
    onward_twins : (next : Next) (rest : Stack) (at : ℕ) (entry last : Opinion) (s t : State) → R s t →
        ((n : ℕ) → WalkedTwins (walk kind serve n rest at entry last s) (walk kind serve n rest at entry last t)) →
        WalkedTwins (onward next (λ n. walk kind serve n rest at entry last s) (walked last s)) (onward next (λ n. walk kind serve n rest at entry last t) (walked last t))
    onward_twins (after n) rest at entry last s t r more = more n
    onward_twins stop rest at entry last s t r more = record { rest = refl; state = r }

    line_twins : (rule : Rule) (rest : Stack) (at : ℕ) (entry opinion : Opinion) (a : Served State) (t : State) → R a.state t →
        ((n : ℕ) (last : Opinion) → WalkedTwins (walk kind serve n rest (at + 1) entry last a.state) (walk kind serve n rest (at + 1) entry last t)) →
        WalkedTwins (past_line kind serve rule rest at entry opinion a) (past_line kind serve rule rest at entry opinion (record a { state = t }))
    line_twins rule rest at entry opinion a t r more =
        let action : Action = action_at rule.control a.deciding in
        let new : Opinion = acted kind action a.answer a.deciding entry opinion in
        let last : Opinion = new_or_overrun action (count rest) new in
        elim a.stopped as (λ (x : Bool). WalkedTwins
        (if x then halted opinion a.state else onward (next_of action (count rest) new) (λ n. walk kind serve n rest (at + 1) entry last a.state) (walked last a.state))
        (if x then halted opinion t else onward (next_of action (count rest) new) (λ n. walk kind serve n rest (at + 1) entry last t) (walked last t))) [
          | true ↦ record { rest = refl; state = r }
          | false ↦ onward_twins (next_of action (count rest) new) rest (at + 1) entry last a.state t r (λ n. more n last)
        ]

    sub_twins : (rest : Stack) (at : ℕ) (entry : Opinion) (a : Walked State) (t : State) → R a.state t →
        WalkedTwins (walk kind serve zero rest at entry a.opinion a.state) (walk kind serve zero rest at entry a.opinion t) →
        WalkedTwins (past_sub kind serve rest at entry a) (past_sub kind serve rest at entry (record a { state = t }))
    sub_twins rest at entry a t r more = elim a.stopped as (λ (x : Bool). WalkedTwins
        (if x then a else walk kind serve zero rest at entry a.opinion a.state)
        (if x then record a { state = t } else walk kind serve zero rest at entry a.opinion t)) [
          | true ↦ record { rest = refl; state = r }
          | false ↦ more
        ]

    pub walk_twins : (skip : ℕ) (stack : Stack) (at : ℕ) (entry opinion : Opinion) (s t : State) → R s t
        → WalkedTwins (walk kind serve skip stack at entry opinion s) (walk kind serve skip stack at entry opinion t)
    walk_twins skip none at entry opinion s t r = record { rest = refl; state = r }
    walk_twins (suc skip) (line rule rest) at entry opinion s t r = walk_twins skip rest (at + 1) entry opinion s t r
    walk_twins (suc skip) (sub inner rest) at entry opinion s t r = walk_twins skip rest (at + lines_in inner) entry opinion s t r
    walk_twins zero (line rule rest) at entry opinion s t r =
        let a : Served State = serve rule at s in
        let b : Served State = serve rule at t in
        let twins : ServedTwins a b = serves rule at s t r in
        subst (λ (x : Served State). WalkedTwins (past_line kind serve rule rest at entry opinion a) (past_line kind serve rule rest at entry opinion x)) twins.rest
        (line_twins rule rest at entry opinion a b.state twins.state (λ n last. walk_twins n rest (at + 1) entry last a.state b.state twins.state))
    walk_twins zero (sub inner rest) at entry opinion s t r =
        let a : Walked State = walk kind serve zero inner at opinion opinion s in
        let b : Walked State = walk kind serve zero inner at opinion opinion t in
        let twins : WalkedTwins a b = walk_twins zero inner at opinion opinion s t r in
        let on : ℕ = at + lines_in inner in
        subst (λ (x : Walked State). WalkedTwins (past_sub kind serve rest on entry a) (past_sub kind serve rest on entry x)) twins.rest
        (sub_twins rest on entry a b.state twins.state (walk_twins zero rest on entry a.opinion a.state b.state twins.state))

-- ---- a pass

module _ {State : Type 0} (R : State → State → Type 0) where
  pub record PassTwins (p q : PassState State) : Type 0 where
    pub rest : record p { state = q.state } ≡ q
    pub state : R p.state q.state

  abbrev pub AsksTwins : Answering State → Type 0
  AsksTwins answering = (rule : Rule) (at : ℕ) (s t : State) → R s t → ((answering rule at s).answer ≡ (answering rule at t).answer) × R (answering rule at s).state (answering rule at t).state

  module _ (kind : PassKind) (kept : KeptAnswers) (answering : Answering State) (asks : AsksTwins answering) where
    now_twins : (at : ℕ) (visits : List Visit) (x y : Answered State) → x.answer ≡ y.answer → R x.state y.state
        → ServedTwins PassTwins (served_now kind kept at visits x) (served_now kind kept at visits y)
    now_twins at visits x y same r =
        subst (λ (c : Code). ServedTwins PassTwins (served_now kind kept at visits x) (served_now kind kept at visits (record y { answer = c }))) same
        (record { rest = refl; state = record { rest = refl; state = r } })

    past_twins : (rule : Rule) (at : ℕ) (past : List Code) (visits : List Visit) (s t : State) → R s t →
        ServedTwins PassTwins (served_past kind kept answering rule at past visits s) (served_past kind kept answering rule at past visits t)
    past_twins rule at [] visits s t r = let a = asks rule at s t r in now_twins at visits (answering rule at s) (answering rule at t) a.0 a.1
    past_twins rule at (p ∷ past) visits s t r = record { rest = refl; state = record { rest = refl; state = r } }

    serving_twins : ServesTwins PassTwins (serving kind kept answering)
    serving_twins rule at p q r =
        subst (λ (x : PassState State). ServedTwins PassTwins (serving kind kept answering rule at p) (serving kind kept answering rule at x)) r.rest
        (past_twins rule at p.past p.visits p.state q.state r.state)

    pub pass_twins : (stack : Stack) (past : List Code) (s t : State) → R s t
        → WalkedTwins PassTwins (pass_after kind kept answering stack past s) (pass_after kind kept answering stack past t)
    pass_twins stack past s t r =
        walk_twins PassTwins kind (serving kind kept answering) serving_twins 0 stack 1 opening opening (pass_state past [] s) (pass_state past [] t) (record { rest = refl; state = r })
