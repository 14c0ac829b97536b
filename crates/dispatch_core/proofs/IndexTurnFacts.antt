-- One turn of the walk by index, from what the code looks up.
use Rattle.std.proofs.Common.{◌≡◌, ℕ, ◌+◌, ◌<◌, ◌≤◌, Bool, true, false, true≢false, if◌then◌else◌, nat_le, Some, None, List, [], drop, drop_of_length-le, refl, sym, ◌∙◌, ap, subst, arith}
use Rattle.std.proofs.Math.Path.{fun_ext}
use Rattle.std.proofs.lemmas.List.{drop-drop}
use Rattle.pam_base.specs.declared.code.Code.{Code}
use Rattle.control_words.specs.declared.control.Action.{Action}
use Rattle.control_words.specs.declared.control.Action.TheVariants as actions
use Rattle.control_words.specs.declared.nodes.Rule.{Rule}
use Rattle.control_words.specs.Control.{action_at}
use Rattle.control_words.specs.Stack.{Stack, count, lines_in}
use Rattle.handler_chain.specs.FlatLines.{FlatLine, flat_lines, lines_in_first, no_rule, rule_at, end_at, target_at}
use Rattle.handler_chain.specs.declared.opinion.Opinion.{Opinion}
use Rattle.handler_chain.specs.declared.pass_kind.PassKind.{PassKind}
use Rattle.handler_chain.specs.Opinion.{acted, overrun, opening}
use Rattle.handler_chain.specs.Walk.{Serving, Served, ServedAs, Walked, walked, halted, pass, ends, after, stop, next_of, new_or_overrun}
use Rattle.dispatch_core.specs.declared.walker.Walker.{Walker}
use Rattle.dispatch_core.specs.EntryStates.{Entries, entry_at, entered}
use Rattle.dispatch_core.specs.Index.{passed, run, run_from, walk_on, LeadsTo, GoesOn, IsLineAt}
use Rattle.dispatch_core.proofs.StackLineFacts.{stands_at, at_line-stands, flat_lines-count, all_nodes}
use Rattle.dispatch_core.proofs.IndexWalkFacts.{skip_to, run_is_pass}

-- a jump within its list
near : (b : Bool) (n left i next : ℕ) (new : Opinion) (rest : Stack) → Some next ≡ (if b then Some (i + 1 + lines_in_first n rest) else None)
    → (new ≡ (if b then new else overrun)) × (next ≡ i + 1 + lines_in_first (passed (if b then after n else stop) left) rest)
near true n left i next new rest is = (refl, cc)
near false n left i next new rest is = cc

pub jumped_near : (stack : Stack) (a : Action) (i n next : ℕ) (new : Opinion) (s : FlatLine) → a ≡ actions.Jump n → Some next ≡ target_at stack i n
    → IsLineAt stack i s → LeadsTo a s.rest new i new next
jumped_near stack a i n next new s which is stands =
    let both = near (nat_le n (count s.rest)) n (count s.rest) i next new s.rest
    (is ∙ at_line-stands None (λ s. if nat_le n (count s.rest) then Some (i + 1 + lines_in_first n s.rest) else None) stack i s _ stands) in
    rw which (record { opinion_is = both.0; next_is = both.1 })

-- a jump out of its list
far : (b : Bool) (n i : ℕ) (new : Opinion) (rest : Stack) → None ≡ (if b then Some (i + 1 + lines_in_first n rest) else None)
    → (overrun ≡ (if b then new else overrun)) × (i + 1 + lines_in rest ≡ i + 1 + lines_in_first (passed (if b then after n else stop) (count rest)) rest)
far true n i new rest is = cc
far false n i new rest is = (refl, ap (λ n. i + 1 + n) (sym (all_nodes rest)))

pub jumped_far : (stack : Stack) (a : Action) (i n next : ℕ) (new opinion : Opinion) (s : FlatLine) → a ≡ actions.Jump n → None ≡ target_at stack i n
    → opinion ≡ overrun → next ≡ end_at stack i → IsLineAt stack i s
    → LeadsTo a s.rest new i opinion next
jumped_far stack a i n next new opinion s which is denied end stands =
    let both = far (nat_le n (count s.rest)) n i new s.rest
    (is ∙ at_line-stands None (λ s. if nat_le n (count s.rest) then Some (i + 1 + lines_in_first n s.rest) else None) stack i s _ stands) in
    rw which (record {
      opinion_is = denied ∙ both.0;
      next_is = end ∙ at_line-stands 0 (λ s. i + 1 + lines_in s.rest) stack i s _ stands ∙ both.1;
    })

-- a list that ends after a line
by_end : (b : Bool) (i : ℕ) (rest : Stack) → b ≡ true → i + 1 + lines_in rest ≡ i + 1 + lines_in_first (passed (if b then stop else after 0) (count rest)) rest
by_end true i rest is = ap (λ n. i + 1 + n) (sym (all_nodes rest))
by_end false i rest is = absurd (true≢false (sym is))

ended : (a : Action) (i : ℕ) (new : Opinion) (rest : Stack) → ends a new ≡ true → LeadsTo a rest new i new (i + 1 + lines_in rest)
ended actions.Ignore i new rest is = absurd (true≢false (sym is))
ended actions.Ok i new rest is = absurd (true≢false (sym is))
ended actions.Done i new rest is = record { opinion_is = refl; next_is = by_end (ends actions.Done new) i rest is }
ended actions.Bad i new rest is = absurd (true≢false (sym is))
ended actions.Die i new rest is = record { opinion_is = refl; next_is = by_end true i rest refl }
ended actions.Reset i new rest is = absurd (true≢false (sym is))
ended (actions.Jump n) i new rest is = absurd (true≢false (sym is))

pub ended_at : (stack : Stack) (a : Action) (i next : ℕ) (new : Opinion) (s : FlatLine) → ends a new ≡ true → next ≡ end_at stack i → IsLineAt stack i s
    → LeadsTo a s.rest new i new next
ended_at stack a i next new s is end stands = rw (end ∙ at_line-stands 0 (λ s. i + 1 + lines_in s.rest) stack i s _ stands) (ended a i new s.rest is)

-- a list always goes on at a later line
pub goes_ahead : (stack : Stack) (a : Action) (i next : ℕ) (new opinion : Opinion) → i < lines_in stack
    → ((s : FlatLine) → IsLineAt stack i s → LeadsTo a s.rest new i opinion next) → i < next
goes_ahead stack a i next new opinion within goes = let at = stands_at stack i within in omega (arith, (goes at.line at.stands).next_is)

module _ {State : Type 0} (kind : PassKind) (serve : Serving State) where
  -- the first line is incomplete
  halts : (stack : Stack) (i : ℕ) (sp : FlatLine) (f : Entries) (o : Opinion) (s : State) → IsLineAt stack i sp → (serve sp.rule (i + 1) s).stopped ≡ true
      → run_from kind serve stack i f o s ≡ halted o (serve sp.rule (i + 1) s).state
  halts stack i sp f o s stands is = rw (stands, is) refl

  -- the first line is acted on
  goes : (stack : Stack) (i : ℕ) (sp : FlatLine) (f : Entries) (o : Opinion) (s : State) → IsLineAt stack i sp → (serve sp.rule (i + 1) s).stopped ≡ false
      → let v : Served State = serve sp.rule (i + 1) s in
      let a : Action = action_at sp.rule.control v.deciding in
      let g : Entries = entered sp.level sp.opens o f in
      let left : ℕ = count sp.rest in
      let new : Opinion = acted kind a v.answer v.deciding (g sp.level) o in
      run_from kind serve stack i f o s ≡ run_from kind serve stack (i + 1 + lines_in_first (passed (next_of a left new) left) sp.rest) g (new_or_overrun a left new) v.state
  goes stack i sp f o s stands is =
      let v : Served State = serve sp.rule (i + 1) s in
      let a : Action = action_at sp.rule.control v.deciding in
      let g : Entries = entered sp.level sp.opens o f in
      let left : ℕ = count sp.rest in
      let new : Opinion = acted kind a v.answer v.deciding (g sp.level) o in
      let k : ℕ = lines_in_first (passed (next_of a left new) left) sp.rest in
      let past : List FlatLine = drop (i + 1) (flat_lines 0 0 stack) in
      ap (λ (xs : List FlatLine). run kind serve xs 0 (i + 1) f o s) stands
      ∙ ap (λ (b : Bool). if b then halted o v.state else run kind serve past k (i + 1 + 1) g (new_or_overrun a left new) v.state) is
      ∙ skip_to kind serve past k (i + 1 + 1) g (new_or_overrun a left new) v.state
      ∙ ap (λ (xs : List FlatLine). run kind serve xs 0 (i + 1 + 1 + k) g (new_or_overrun a left new) v.state) (drop-drop k (i + 1) (flat_lines 0 0 stack))
      ∙ ap (λ n. run kind serve (drop (i + 1 + k) (flat_lines 0 0 stack)) 0 n g (new_or_overrun a left new) v.state) (let e : i + 1 + 1 + k ≡ i + 1 + k + 1 = omega arith in e)

  -- the line where a walker is, run
  served_line : (stack : Stack) (i : ℕ) (l : FlatLine) (s s' : State) (answer deciding : Code) (stopped : Bool)
      → IsLineAt stack i l → ServedAs (serve (rule_at stack i) (i + 1) s) answer deciding stopped s' → ServedAs (serve l.rule (i + 1) s) answer deciding stopped s'
  served_line stack i l s s' answer deciding stopped stands served =
      subst (λ (r : Rule). ServedAs (serve r (i + 1) s) answer deciding stopped s') (at_line-stands no_rule (λ l. l.rule) stack i l _ stands) served

  -- the line leaves the walk incomplete
  pub halted_there : (stack : Stack) (w : Walker) (s s' : State) (answer deciding : Code) (stopped : Bool)
      → w.at < lines_in stack → ServedAs (serve (rule_at stack w.at) (w.at + 1) s) answer deciding stopped s' → stopped ≡ true
      → walk_on kind serve stack w s ≡ halted w.opinion s'
  halted_there stack w s s' answer deciding stopped within served is =
      let at = stands_at stack w.at within in
      let here = served_line stack w.at at.line s s' answer deciding stopped at.stands served in
      halts stack w.at at.line (entry_at w.entries) w.opinion s at.stands (sym here.stopped_is ∙ is) ∙ ap (halted w.opinion) (sym here.state_is)

  -- the walker acts on the line
  pub gone_on : (stack : Stack) (old new : Walker) (s s' : State) (answer deciding : Code) (stopped : Bool)
      → old.at < lines_in stack → ServedAs (serve (rule_at stack old.at) (old.at + 1) s) answer deciding stopped s' → stopped ≡ false
      → ((l : FlatLine) → IsLineAt stack old.at l → GoesOn kind l answer deciding old new)
      → walk_on kind serve stack old s ≡ walk_on kind serve stack new s'
  gone_on stack old new s s' answer deciding stopped within served is each =
      let at = stands_at stack old.at within in
      let l : FlatLine = at.line in
      let here = served_line stack old.at l s s' answer deciding stopped at.stands served in
      let v : Served State = serve l.rule (old.at + 1) s in
      let one : GoesOn kind l v.answer deciding old new = subst (λ (k : Code). GoesOn kind l k deciding old new) here.answer_is (each l at.stands) in
      let on : GoesOn kind l v.answer v.deciding old new = subst (λ (k : Code). GoesOn kind l v.answer k old new) here.deciding_is one in
      let entries_are : entry_at new.entries ≡ entered l.level l.opens old.opinion (entry_at old.entries) = fun_ext on.entries in
      goes stack old.at l (entry_at old.entries) old.opinion s at.stands (sym here.stopped_is ∙ is)
      ∙ sym (rw (on.leads.next_is, on.leads.opinion_is, entries_are, here.state_is) refl)

  -- after the last line
  pub ended_at_last : (stack : Stack) (w : Walker) (s : State) (all : Walked State) → lines_in stack ≤ w.at → walk_on kind serve stack w s ≡ all
      → walked w.opinion s ≡ all
  ended_at_last stack w s all past_end is =
      let none_left : drop w.at (flat_lines 0 0 stack) ≡ [] = drop_of_length-le (flat_lines 0 0 stack) (omega (arith, past_end, flat_lines-count stack 0 0)) in
      sym (ap (λ (xs : List FlatLine). run kind serve xs 0 (w.at + 1) (entry_at w.entries) w.opinion s) none_left) ∙ is

  -- before the first line
  pub begun : (stack : Stack) (w : Walker) (s : State) → w.at ≡ 0 → w.opinion ≡ opening → ((k : ℕ) → entry_at w.entries k ≡ opening)
      → walk_on kind serve stack w s ≡ pass kind serve stack s
  begun stack w s first unformed entries =
      let all : entry_at w.entries ≡ (λ k. opening) = fun_ext entries in
      rw (first, unformed, all) (run_is_pass kind serve stack s)
