-- What each pass of a call does, all of them do.
use Rattle.std.proofs.Common.{◌≡◌, List, [], Option, Some, None, refl, ap, ◌∙◌, subst}
use Rattle.std.specs.Prelude.{Bool, true, false}
use Rattle.pam_base.specs.declared.code.Code.{Code}
use Rattle.pam_base.specs.declared.code.Code.TheVariants.{Success}
use Rattle.pam_base.specs.declared.call.Func.{Func}
use Rattle.pam_base.specs.declared.call.Func.TheVariants.{ChAuthTok}
use Rattle.dispatch_core.specs.Calls as calls
use Rattle.dispatch_core.specs.Calls.{Asking, Held, Passed, Went, first_kept, first_stack, held_past, kind_of, passes, went}
use Rattle.dispatch_core.specs.Pending.{first_in, past_in}
use Rattle.dispatch_core.specs.handler_chain.specs.Route.{KeptAnswers}
use Rattle.dispatch_core.specs.handler_chain.specs.declared.pass_kind.PassKind.{PassKind}
use Rattle.dispatch_core.specs.handler_chain.specs.declared.pass_kind.PassKind.TheVariants as kinds
use Rattle.dispatch_core.specs.pam_room.specs.State.{State}
use Rattle.dispatch_core.specs.service_load.specs.Stacks.{Stacks}

-- ---- what holds before and after each pass

module _ (Holds : State → Type 0) (asking : Asking State) (stacks : Stacks) where
  abbrev pub Keeps : Func → Type 0
  Keeps func = (second : Bool) (kind : PassKind) (kept : Option KeptAnswers) (past : List Code) (s : State) → Holds s
      → Holds (passes asking stacks func second kind kept (first_stack func stacks) past s).state

  checked : Keeps ChAuthTok → (code : Code) (kept : Option KeptAnswers) (h : Held) (s : State) → Holds s → Holds (calls.after_check asking stacks code kept h s).state
  checked keeps Success kept h s holds = keeps true kinds.Follow kept [] s holds
  checked keeps code kept h s holds = holds

  after : (func : Func) → Keeps func → (past : List Code) (first : Option KeptAnswers) (h : Held) (s : State) → Holds s
      → Holds (calls.call_after asking stacks func past first h s).state
  after ChAuthTok keeps past None h s holds =
      let p = calls.first_pass asking stacks ChAuthTok past h s in
      checked keeps p.code p.kept (held_past ChAuthTok None p h) p.state (keeps false kinds.Keep None past s holds)
  after ChAuthTok keeps past (Some first) h s holds = keeps true kinds.Follow (Some first) past s holds
  after func keeps past first h s holds = keeps false (kind_of func (first_kept func h)) (first_kept func h) past s holds

  -- holds before and after all of them
  pub passes_keep : (func : Func) → Keeps func → (h : Held) (s : State) → Holds s → Holds (calls.goes asking stacks func h s).state
  passes_keep func keeps h s holds = after func keeps (past_in h.pending) (first_in h.pending) h s holds

-- ---- passes from two states

-- two passes, or two calls, return and cache the same, and leave two states that are alike
pub record PassedAlike (Alike : State → State → Type 0) (p q : Passed State) : Type 0 where
  pub code : p.code ≡ q.code
  pub kept : p.kept ≡ q.kept
  pub paused : p.paused ≡ q.paused
  pub state : Alike p.state q.state

pub record WentAlike (Alike : State → State → Type 0) (r u : Went State) : Type 0 where
  pub code : r.code ≡ u.code
  pub held : r.held ≡ u.held
  pub state : Alike r.state u.state

module _ (Alike : State → State → Type 0) (asking : Asking State) (stacks : Stacks) where
  abbrev pub GoAlike : Func → Type 0
  GoAlike func = (second : Bool) (kind : PassKind) (kept : Option KeptAnswers) (past : List Code) (s t : State) → Alike s t
      → PassedAlike Alike (passes asking stacks func second kind kept (first_stack func stacks) past s)
      (passes asking stacks func second kind kept (first_stack func stacks) past t)

  -- what is held after two passes
  held_alike : (func : Func) (first : Option KeptAnswers) (p q : Passed State) (h : Held) → PassedAlike Alike p q → held_past func first p h ≡ held_past func first q h
  held_alike func first p q h alike =
      ap (λ (k : Option KeptAnswers). held_past func first (record p { kept = k }) h) alike.kept
      ∙ ap (λ (o : Option (List Code)). held_past func first (record p { kept = q.kept; paused = o }) h) alike.paused

  once : (func : Func) (first : Option KeptAnswers) (p q : Passed State) (h : Held) → PassedAlike Alike p q
      → WentAlike Alike (went p.code (held_past func first p h) p.state) (went q.code (held_past func first q h) q.state)
  once func first p q h alike = record { code = alike.code; held = held_alike func first p q h alike; state = alike.state }

  twice : GoAlike ChAuthTok → (code : Code) (kept : Option KeptAnswers) (h : Held) (s t : State) → Alike s t
      → WentAlike Alike (calls.after_check asking stacks code kept h s) (calls.after_check asking stacks code kept h t)
  twice go Success kept h s t alike =
      once ChAuthTok kept (calls.second_pass asking stacks kept [] s) (calls.second_pass asking stacks kept [] t) h (go true kinds.Follow kept [] s t alike)
  twice go code kept h s t alike = record { code = refl; held = refl; state = alike }

  change : GoAlike ChAuthTok → (past : List Code) (h : Held) (s t : State) → Alike s t
      → WentAlike Alike (calls.check asking stacks past h s) (calls.check asking stacks past h t)
  change go past h s t alike =
      let p = calls.first_pass asking stacks ChAuthTok past h s in
      let q = calls.first_pass asking stacks ChAuthTok past h t in
      let both : PassedAlike Alike p q = go false kinds.Keep None past s t alike in
      let to : Code → Option KeptAnswers → Held → Went State = λ code kept g. calls.after_check asking stacks code kept g q.state in
      let same : to p.code p.kept (held_past ChAuthTok None p h) ≡ to q.code q.kept (held_past ChAuthTok None q h) =
      ap (λ (c : Code). to c p.kept (held_past ChAuthTok None p h)) both.code
      ∙ ap (λ (k : Option KeptAnswers). to q.code k (held_past ChAuthTok None p h)) both.kept
      ∙ ap (λ (g : Held). to q.code q.kept g) (held_alike ChAuthTok None p q h both) in
      subst (λ (u : Went State). WentAlike Alike (calls.after_check asking stacks p.code p.kept (held_past ChAuthTok None p h) p.state) u) same
      (twice go p.code p.kept (held_past ChAuthTok None p h) p.state q.state both.state)

  alike_after : (func : Func) → GoAlike func → (past : List Code) (first : Option KeptAnswers) (h : Held) (s t : State) → Alike s t
      → WentAlike Alike (calls.call_after asking stacks func past first h s) (calls.call_after asking stacks func past first h t)
  alike_after ChAuthTok go past None h s t alike = change go past h s t alike
  alike_after ChAuthTok go past (Some first) h s t alike =
      once ChAuthTok (Some first) (calls.second_pass asking stacks (Some first) past s) (calls.second_pass asking stacks (Some first) past t) h (go true kinds.Follow (Some first) past s t alike)
  alike_after func go past first h s t alike =
      once func None (calls.first_pass asking stacks func past h s) (calls.first_pass asking stacks func past h t) h (go false (kind_of func (first_kept func h)) (first_kept func h) past s t alike)

  -- if each pass goes alike from two states that are alike, so do all of them
  pub passes_go_alike : (func : Func) → GoAlike func → (h : Held) (s t : State) → Alike s t
      → WentAlike Alike (calls.goes asking stacks func h s) (calls.goes asking stacks func h t)
  passes_go_alike func go h s t alike = alike_after func go (past_in h.pending) (first_in h.pending) h s t alike
