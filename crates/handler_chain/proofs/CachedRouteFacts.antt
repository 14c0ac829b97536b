-- A walk whose lines act by cached codes follows the route of these codes.
use Rattle.std.proofs.Common.{◌≡◌, ℕ, zero, suc, ◌+◌, ◌<◌, ◌≤◌, Bool, true, false, true≢false, ◌⊎◌, inl, inr, if◌then◌else◌, List, [], ◌∷◌, ◌++◌, length, length-append, Option, Some, None, refl, sym, ◌∙◌, ap, subst, append_assoc, append-nil, arith}
use Rattle.pam_base.specs.declared.code.Code.{Code}
use Rattle.control_words.specs.declared.control.Action.{Action}
use Rattle.control_words.specs.declared.nodes.Rule.{Rule}
use Rattle.control_words.specs.Control.{action_at}
use Rattle.control_words.specs.Stack.{Stack, none, line, sub, count, lines_in}
use Rattle.handler_chain.specs.declared.opinion.Opinion.{Opinion}
use Rattle.handler_chain.specs.declared.pass_kind.PassKind.{PassKind}
use Rattle.handler_chain.specs.Opinion.{acted}
use Rattle.handler_chain.specs.Walk.{Serving, Served, Walked, walked, halted, Next, after, stop, next_of, new_or_overrun, onward, walk}
use Rattle.handler_chain.specs.Route.{KeptAnswers, negative_after, next_by, negative_past, Met, met, with_met, onto, met_at, route_from}
use Rattle.handler_chain.proofs.Negativity.{negative_opinion, acted_negative, next_of-is, settled_negative}

module _ (State : Type 0) where
  pub state_if : (b : Bool) (x y : Walked State) (P : State → Type 0) → P x.state → P y.state → P (if b then x else y).state
  state_if true x y P p q = p
  state_if false x y P p q = q

  pub state_onward : (next : Next) (f : ℕ → Walked State) (h : Walked State) (P : State → Type 0) → ((n : ℕ) → P (f n).state) → P h.state
      → P (onward next f h).state
  state_onward (after n) f h P each here = each n
  state_onward stop f h P each here = here

module _ (State : Type 0) (kind : PassKind) (serve : Serving State) where
  -- what each line leaves unchanged, a walk leaves unchanged
  pub walk_keeps : (P : ℕ → State → Type 0) → ((rule : Rule) (at : ℕ) (s : State) → P at s → P (at + 1) (serve rule at s).state)
      → ((at later : ℕ) (s : State) → at ≤ later → P at s → P later s)
      → (t : Stack) (n at : ℕ) (entry o : Opinion) (s : State) → P at s → P (at + lines_in t) (walk kind serve n t at entry o s).state
  walk_keeps P step up none n at entry o s p = up at (at + 0) s (omega arith) p
  walk_keeps P step up (line rule rest) (suc n) at entry o s p =
      up (at + 1 + lines_in rest) (at + (lines_in rest + 1)) _ (omega arith) (walk_keeps P step up rest n (at + 1) entry o s (up at (at + 1) s (omega arith) p))
  walk_keeps P step up (sub inner rest) (suc n) at entry o s p =
      up (at + lines_in inner + lines_in rest) (at + (lines_in inner + lines_in rest)) _ (omega arith)
      (walk_keeps P step up rest n (at + lines_in inner) entry o s (up at (at + lines_in inner) s (omega arith) p))
  walk_keeps P step up (line rule rest) zero at entry o s p =
      let v : Served State = serve rule at s in
      let later : ℕ = at + (lines_in rest + 1) in
      let one : P (at + 1) v.state = step rule at s p in
      let here : P later v.state = up (at + 1) later v.state (omega arith) one in
      state_if State v.stopped _ _ (P later) here
      (state_onward State _ _ _ (P later) (λ n. up (at + 1 + lines_in rest) later _ (omega arith) (walk_keeps P step up rest n (at + 1) entry _ v.state one)) here)
  walk_keeps P step up (sub inner rest) zero at entry o s p =
      let later : ℕ = at + (lines_in inner + lines_in rest) in
      let w : Walked State = walk kind serve zero inner at o o s in
      let inside : P (at + lines_in inner) w.state = walk_keeps P step up inner zero at o o s p in
      state_if State w.stopped _ _ (P later) (up (at + lines_in inner) later w.state (omega arith) inside)
      (up (at + lines_in inner + lines_in rest) later _ (omega arith) (walk_keeps P step up rest zero (at + lines_in inner) entry w.opinion w.state inside))

-- What is known of how lines are served: which lines a state has seen; and, if a walk ends in a
-- state that is Ok, that each line that was run acts by its cached code. `Low` says what holds
-- before a line.
pub record Tells (State : Type 0) (serve : Serving State) (kept : KeptAnswers) (seen : State → List ℕ) (Low : ℕ → State → Type 0) (Ok : State → Type 0) : Type 0 where
  pub on : (rule : Rule) (at : ℕ) (s : State) → (serve rule at s).stopped ≡ false → seen (serve rule at s).state ≡ seen s ++ at ∷ []
  pub off : (rule : Rule) (at : ℕ) (s : State) → (serve rule at s).stopped ≡ true → seen (serve rule at s).state ≡ seen s
  pub low : (rule : Rule) (at : ℕ) (s : State) → Low at s → Low (at + 1) (serve rule at s).state
  pub up : (at later : ℕ) (s : State) → at ≤ later → Low at s → Low later s
  pub back : (rule : Rule) (at : ℕ) (s : State) → Ok (serve rule at s).state → Ok s
  pub agrees : (rule : Rule) (at : ℕ) (s : State) (k : Code) → Low at s → Ok (serve rule at s).state → (serve rule at s).stopped ≡ false
      → kept at ≡ Some k → (serve rule at s).deciding ≡ k

-- each line that was run has a cached code
abbrev pub Finds : (State : Type 0) (serve : Serving State) (kept : KeptAnswers) (Low : ℕ → State → Type 0) (Ok : State → Type 0) → Type 0
Finds State serve kept Low Ok = (rule : Rule) (at : ℕ) (s : State) → Low at s → Ok (serve rule at s).state → (serve rule at s).stopped ≡ false → kept at ≡ None → ⊥

-- A walk follows its route: the lines that it saw are a prefix of the route and, once it has ended,
-- all of it.
pub record Goes (State : Type 0) (seen : State → List ℕ) (before : List ℕ) (m : Met) (w : Walked State) : Type 0 where
  pub left : List ℕ
  pub places : before ++ m.places ≡ seen w.state ++ left
  pub ended : w.stopped ≡ false → left ≡ []
  pub fewer : w.stopped ≡ true → 0 < length left
  pub negative : w.stopped ≡ false → negative_opinion w.opinion ≡ m.negative
  pub has : w.stopped ≡ false → m.lacks ≡ false

lacks_first : (c : Bool) (first rest : Met) → first.lacks ≡ c → (if c then first else rest).lacks ≡ false → first.lacks ≡ false
lacks_first true first rest is has = has
lacks_first false first rest is has = is

-- a line is met
met_some : (at : ℕ) (answer : Option Code) (now : Bool) (on : Code → Met) → 0 < length (met_at at answer now on).places
met_some at None now on = omega arith
met_some at (Some k) now on = omega arith

module _ (State : Type 0) (kind : PassKind) (serve : Serving State) (kept : KeptAnswers) (seen : State → List ℕ) (Low : ℕ → State → Type 0) (Ok : State → Type 0) (tells : Tells State serve kept seen Low Ok) where
  abbrev Sure : Met → Type 0
  Sure m = (m.lacks ≡ false) ⊎ Finds State serve kept Low Ok

  abbrev Along : List ℕ → Met → Walked State → Type 0
  Along = Goes State seen

  walk_low : (t : Stack) (n at : ℕ) (entry o : Opinion) (s : State) → Low at s → Low (at + lines_in t) (walk kind serve n t at entry o s).state
  walk_low = walk_keeps State kind serve Low tells.low tells.up

  walk_back : (t : Stack) (n at : ℕ) (entry o : Opinion) (s : State) → Ok (walk kind serve n t at entry o s).state → Ok s
  walk_back t n at entry o s =
      walk_keeps State kind serve (λ (at : ℕ) (x : State). Ok x → Ok s) (λ rule at x from ok. from (tells.back rule at x ok)) (λ at later x le from. from) t n at entry o s (λ ok. ok)

  goes_past : (before places : List ℕ) (m : Met) (w : Walked State) → Along (before ++ places) m w → Along before (with_met places m) w
  goes_past before places m w goes = record {
    left = goes.left;
    places = sym (append_assoc before places m.places) ∙ goes.places;
    ended = goes.ended;
    fewer = goes.fewer;
    negative = goes.negative;
    has = goes.has;
  }

  goes_next : (next : Next) (f : ℕ → Walked State) (g : ℕ → Met) (w : Walked State) (m : Met) (before : List ℕ)
      → ((n : ℕ) → Ok (f n).state → Sure (g n) → Along before (g n) (f n)) → Along before m w
      → Ok (onward next f w).state → Sure (onto next g m) → Along before (onto next g m) (onward next f w)
  goes_next (after n) f g w m before each here ok sure = each n ok sure
  goes_next stop f g w m before each here ok sure = here

  -- incomplete at a line
  goes_if : (b : Bool) (m : Met) (w : Walked State) (o : Opinion) (s : State) (before : List ℕ)
      → 0 < length m.places → (b ≡ true → seen s ≡ before) → (b ≡ false → Ok w.state → Along before m w)
      → Ok (if b then halted o s else w).state → Along before m (if b then halted o s else w)
  goes_if true m w o s before some same go ok = record {
    left = m.places;
    places = ap (λ xs. xs ++ m.places) (sym (same refl));
    ended = λ e. absurd (true≢false e);
    fewer = λ e. some;
    negative = λ e. absurd (true≢false e);
    has = λ e. absurd (true≢false e);
  }
  goes_if false m w o s before some same go ok = go refl ok

  goes_kept : (a : Option Code) (at : ℕ) (now : Bool) (on : Code → Met) (w : Walked State) (before : List ℕ)
      → (a ≡ None → Finds State serve kept Low Ok → ⊥) → ((k : Code) → a ≡ Some k → Sure (on k) → Along (before ++ at ∷ []) (on k) w)
      → Sure (met_at at a now on) → Along before (met_at at a now on) w
  goes_kept None at now on w before lost each (inl e) = absurd (true≢false e)
  goes_kept None at now on w before lost each (inr finds) = absurd (lost refl finds)
  goes_kept (Some k) at now on w before lost each sure = goes_past before (at ∷ []) (on k) w (each k refl sure)

  sure_first : (first rest : Met) → Sure (if first.lacks then first else with_met first.places rest) → Sure first
  sure_first first rest (inl e) = inl (lacks_first first.lacks first (with_met first.places rest) refl e)
  sure_first first rest (inr finds) = inr finds

  goes_stopped : (c : Bool) (first rest : Met) (w : Walked State) (before : List ℕ) → w.stopped ≡ true
      → Along before first w → Along before (if c then first else with_met first.places rest) w
  goes_stopped true first rest w before is goes = goes
  goes_stopped false first rest w before is goes = record {
    left = goes.left ++ rest.places;
    places = sym (append_assoc before first.places rest.places) ∙ ap (λ xs. xs ++ rest.places) goes.places ∙ append_assoc (seen w.state) goes.left rest.places;
    ended = λ e. absurd (true≢false (sym is ∙ e));
    fewer = λ e. omega (arith, goes.fewer is, length-append goes.left rest.places);
    negative = λ e. absurd (true≢false (sym is ∙ e));
    has = λ e. absurd (true≢false (sym is ∙ e));
  }

  -- if the first part ended, what it saw is all that it met
  seen_all : (before : List ℕ) (m : Met) (w : Walked State) → w.stopped ≡ false → Along before m w → seen w.state ≡ before ++ m.places
  seen_all before m w is goes = sym (goes.places ∙ ap (λ xs. seen w.state ++ xs) (goes.ended is) ∙ append-nil (seen w.state))

  goes_sub : (b : Bool) (first rest : Met) (inside w : Walked State) (before : List ℕ) → inside.stopped ≡ b
      → Along before first inside → (b ≡ false → Ok w.state → Sure rest → Along (seen inside.state) rest w)
      → Ok (if b then inside else w).state → Sure (if first.lacks then first else with_met first.places rest)
      → Along before (if first.lacks then first else with_met first.places rest) (if b then inside else w)
  goes_sub true first rest inside w before is goes more ok sure = goes_stopped first.lacks first rest inside before is goes
  goes_sub false first rest inside w before is goes more ok sure =
      let has : first.lacks ≡ false = goes.has is in
      let sure' : Sure (with_met first.places rest) = subst (λ (c : Bool). Sure (if c then first else with_met first.places rest)) has sure in
      subst (λ (c : Bool). Along before (if c then first else with_met first.places rest) w) (sym has)
      (goes_past before first.places rest w (subst (λ (xs : List ℕ). Along xs rest w) (seen_all before first inside is goes) (more refl ok sure')))

  pub along : (t : Stack) (n at : ℕ) (entry o : Opinion) (s : State) (en now : Bool) → negative_opinion entry ≡ en → negative_opinion o ≡ now → Low at s
      → Ok (walk kind serve n t at entry o s).state → Sure (route_from kept n t at en now)
      → Along (seen s) (route_from kept n t at en now) (walk kind serve n t at entry o s)
  along none n at entry o s en now e_is o_is low ok sure = record { left = []; places = refl; ended = λ e. refl; fewer = λ e. absurd (true≢false (sym e)); negative = λ e. o_is; has = λ e. refl }
  along (line rule rest) (suc n) at entry o s en now e_is o_is low ok sure =
      along rest n (at + 1) entry o s en now e_is o_is (tells.up at (at + 1) s (omega arith) low) ok sure
  along (sub inner rest) (suc n) at entry o s en now e_is o_is low ok sure =
      along rest n (at + lines_in inner) entry o s en now e_is o_is (tells.up at (at + lines_in inner) s (omega arith) low) ok sure
  along (line rule rest) zero at entry o s en now e_is o_is low ok sure =
      let v : Served State = serve rule at s in
      let left : ℕ = count rest in
      let new : Code → Opinion = λ k. acted kind (action_at rule.control k) v.answer k entry o in
      let last : Code → Opinion = λ k. new_or_overrun (action_at rule.control k) left (new k) in
      let w : Code → Walked State = λ k. onward (next_of (action_at rule.control k) left (new k)) (λ n. walk kind serve n rest (at + 1) entry (last k) v.state) (walked (last k) v.state) in
      let on : Code → Met = λ k.
      onto (next_by (action_at rule.control k) left now) (λ n. route_from kept n rest (at + 1) en (negative_past (action_at rule.control k) left en now)) (met (negative_past (action_at rule.control k) left en now)) in
      goes_if v.stopped (met_at at (kept at) now on) (w v.deciding) o v.state (seen s) (met_some at (kept at) now on) (tells.off rule at s)
      (λ runs ok'.
      let served : Ok v.state = state_onward State _ _ _ (λ (x : State). Ok x → Ok v.state) (λ n. walk_back rest n (at + 1) entry (last v.deciding) v.state) (λ x. x) ok' in
      goes_kept (kept at) at now on (w v.deciding) (seen s) (λ is finds. finds rule at s low served runs is)
      (λ k is sure'.
      let decides : v.deciding ≡ k = tells.agrees rule at s k low served runs is in
      let a : Action = action_at rule.control k in
      let is_new : negative_opinion (new k) ≡ negative_after a en now = acted_negative kind a v.answer k entry o ∙ ap (λ (b : Bool). negative_after a b (negative_opinion o)) e_is ∙ ap (negative_after a en) o_is in
      let is_last : negative_opinion (last k) ≡ negative_past a left en now = settled_negative a left (new k) en now is_new in
      let f : ℕ → Walked State = λ n. walk kind serve n rest (at + 1) entry (last k) v.state in
      let same : next_of a left (new k) ≡ next_by a left now = next_of-is a left (new k) en now is_new in
      let ok_k : Ok (onward (next_by a left now) f (walked (last k) v.state)).state =
      subst (λ (next : Next). Ok (onward next f (walked (last k) v.state)).state) same (subst (λ (c : Code). Ok (w c).state) decides ok') in
      let here : Along (seen v.state) (met (negative_past a left en now)) (walked (last k) v.state) = record { left = []; places = refl; ended = λ e. refl; fewer = λ e. absurd (true≢false (sym e)); negative = λ e. is_last; has = λ e. refl } in
      let goes : Along (seen v.state) (on k) (onward (next_by a left now) f (walked (last k) v.state)) =
      goes_next (next_by a left now) f _ _ _ (seen v.state) (λ n ok'' sure''. along rest n (at + 1) entry (last k) v.state en (negative_past a left en now) e_is is_last (tells.low rule at s low) ok'' sure'') here ok_k sure' in
      subst (λ (xs : List ℕ). Along xs (on k) (w v.deciding)) (tells.on rule at s runs)
      (subst (λ (c : Code). Along (seen v.state) (on k) (w c)) (sym decides)
      (subst (λ (next : Next). Along (seen v.state) (on k) (onward next f (walked (last k) v.state))) (sym same) goes)))
      sure)
      ok
  along (sub inner rest) zero at entry o s en now e_is o_is low ok sure =
      let w : Walked State = walk kind serve zero inner at o o s in
      let m : Met = route_from kept zero inner at now now in
      let after_w : Walked State = walk kind serve zero rest (at + lines_in inner) entry w.opinion w.state in
      let after_m : Met = route_from kept zero rest (at + lines_in inner) en m.negative in
      let inside_ok : Ok w.state =
      state_if State w.stopped w after_w (λ (x : State). Ok x → Ok w.state) (λ x. x) (walk_back rest zero (at + lines_in inner) entry w.opinion w.state) ok in
      let inside : Along (seen s) m w = along inner zero at o o s now now o_is o_is low inside_ok (sure_first m after_m sure) in
      goes_sub w.stopped m after_m w after_w (seen s) refl inside
      (λ runs ok' sure'. along rest zero (at + lines_in inner) entry w.opinion w.state en m.negative e_is (inside.negative runs) (walk_low inner zero at o o s low) ok' sure')
      ok sure
