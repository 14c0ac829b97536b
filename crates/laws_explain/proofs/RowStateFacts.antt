-- A run's rows lead to the state of its walk, or to the rule at which it waits.
use Rattle.std.proofs.Common.{◌≡◌, ℕ, zero, suc, ◌+◌, ◌<◌, Bool, true, false, true≢false, if◌then◌else◌, List, [], ◌∷◌, ◌++◌, Option, Some}
use Rattle.std.proofs.Common.{None, refl, sym, ◌∙◌, ap, arith, append_assoc, append-nil}
use Rattle.std.specs.List.{flat_map}
use Rattle.pam_base.specs.declared.code.Code.{Code}
use Rattle.pam_base.specs.declared.code.Code.TheVariants.{Incomplete}
use Rattle.control_words.specs.Control.{action_at}
use Rattle.control_words.specs.Stack.{Stack, none, line, sub, count, lines_in}
use Rattle.handler_chain.specs.declared.opinion.Opinion.{Opinion}
use Rattle.handler_chain.specs.declared.pass_kind.PassKind.{PassKind}
use Rattle.handler_chain.specs.Opinion.{acted, opening, verdict}
use Rattle.handler_chain.specs.Pass.{pass_after, pass_state, serving}
use Rattle.handler_chain.specs.Retell.{replaying}
use Rattle.handler_chain.specs.Walk.{Next, Served, Serving, Walked, after, code_of, halted, next_of, new_or_overrun, onward, stop, walk, walked}
use Rattle.pass_replay.specs.Walk.{skip_of}
use Rattle.explain_lines.specs.declared.row.Fate.{Fate}
use Rattle.explain_lines.specs.declared.row.Fate.TheVariants.{Ended, Jumped, Ran, Unreached, Waits}
use Rattle.explain_lines.specs.declared.row.Row.{Row}
use Rattle.explain_lines.specs.Rows.{row_of}
use Rattle.explain_lines.specs.Text.{decided_text, decider, end_from, end_text, end_with, head_text, is_same_state, row_text, waits_text}
use Rattle.explain_calls.specs.Rows.{pass_rows, rows, rows_over, why_by}
use Rattle.laws_explain.specs.Codes.{EndsWith, RunsEndWithTheirCode, Why, by_rule, no_rule, return_line, waits_at}

-- ---- rows that leave the state as it is

abbrev Passes : Fate → Type 0
Passes why = (at : ℕ) (o : Opinion) (by : Option ℕ) (next : Opinion → Option ℕ → List ℕ) → end_with why at o by next ≡ next o by

over_passes : (why : Fate) → Passes why → (t : Stack) (at : ℕ) (o : Opinion) (by : Option ℕ) (more : List Row)
    → end_from o by (rows_over why at t ++ more) ≡ end_from o by more
over_passes why passes none at o by more = refl
over_passes why passes (line rule rest) at o by more =
    passes at o by (λ state rule. end_from state rule (rows_over why (at + 1) rest ++ more)) ∙ over_passes why passes rest (at + 1) o by more
over_passes why passes (sub inner rest) at o by more =
    ap (end_from o by) (append_assoc (rows_over why at inner) (rows_over why (at + lines_in inner) rest) more)
    ∙ over_passes why passes inner at o by (rows_over why (at + lines_in inner) rest ++ more)
    ∙ over_passes why passes rest (at + lines_in inner) o by more

-- ---- the words of the last line

abbrev because : Option ℕ → Why
because None = no_rule
because (Some n) = by_rule n

decided_line : (o : Opinion) (by : Option ℕ) → decided_text o by ≡ return_line (verdict o) (because by)
decided_line o None = refl
decided_line o (Some n) = refl

-- ---- rows and a walk

module _ {State : Type 0} where
  -- from a state on, and the rule that set it last, rows lead to where a walk waits, or to its state
  record Leads (o : Opinion) (by : Option ℕ) (shown : List Row) (w : Walked State) : Type 0 where
    waits : w.stopped ≡ true → (at : ℕ) × ((more : List Row) → end_from o by (shown ++ more) ≡ waits_text at)
    goes : w.stopped ≡ false → (last : Option ℕ) × ((more : List Row) → end_from o by (shown ++ more) ≡ end_from w.opinion last more)

  leads_on : (o : Opinion) (by : Option ℕ) (s : State) (shown : List Row) → ((more : List Row) → end_from o by (shown ++ more) ≡ end_from o by more)
      → Leads o by shown (walked o s)
  leads_on o by s shown same = record { waits = λ e. absurd (true≢false (sym e)); goes = λ e. (by, same) }

  leads_after : (o p : Opinion) (by last : Option ℕ) (xs ys : List Row) (w : Walked State)
      → ((more : List Row) → end_from o by (ys ++ more) ≡ end_from p last (xs ++ more)) → Leads p last xs w → Leads o by ys w
  leads_after o p by last xs ys w same d = record {
    waits = λ e. let h = d.waits e in (h.0, λ more. same more ∙ h.1 more);
    goes = λ e. let h = d.goes e in (h.0, λ more. same more ∙ h.1 more);
  }

  leads_either : (b : Bool) (o : Opinion) (by : Option ℕ) (xs ys : List Row) (v w : Walked State) → Leads o by xs v → Leads o by ys w
      → Leads o by (if b then xs else ys) (if b then v else w)
  leads_either true o by xs ys v w one two = one
  leads_either false o by xs ys v w one two = two

  leads_onward : (next : Next) (left at : ℕ) (o : Opinion) (by : Option ℕ) (shown : ℕ → Fate → List Row) (f : ℕ → Walked State) (w : Walked State)
      → ((n : ℕ) → Leads o by (shown n (Jumped at)) (f n)) → Leads o by (shown left (Ended at)) w
      → Leads o by (shown (skip_of next left) (why_by next at)) (onward next f w)
  leads_onward (after n) left at o by shown f w each here = each n
  leads_onward stop left at o by shown f w each here = here

  -- rows of a substack, and of what is after it
  leads_past : (b : Bool) (o : Opinion) (by : Option ℕ) (xs over ys : List Row) (v w : Walked State) → v.stopped ≡ b → Leads o by xs v
      → ((last : Option ℕ) → Leads v.opinion last ys w) → Leads o by (xs ++ (if b then over else ys)) (if b then v else w)
  leads_past true o by xs over ys v w is d rest = record {
    waits = λ e. let h = d.waits is in (h.0, λ more. ap (end_from o by) (append_assoc xs over more) ∙ h.1 (over ++ more));
    goes = λ e. absurd (true≢false (sym is ∙ e));
  }
  leads_past false o by xs over ys v w is d rest =
      let h = d.goes is in
      leads_after o v.opinion by h.0 ys (xs ++ ys) w (λ more. ap (end_from o by) (append_assoc xs ys more) ∙ h.1 (ys ++ more)) (rest h.0)

  module _ (kind : PassKind) (serve : Serving State) where
    -- all nodes that are left are skipped
    all_skipped : (why : Fate) → Passes why → (n : ℕ) (t : Stack) → n ≡ count t
        → (at : ℕ) (entry p : Opinion) (s : State) (o : Opinion) (by : Option ℕ) (more : List Row)
        → end_from o by (rows kind serve n why t at entry p s ++ more) ≡ end_from o by more
    all_skipped why passes n none is at entry p s o by more = refl
    all_skipped why passes zero (line rule rest) is at entry p s o by more = absurd (omega (arith, is))
    all_skipped why passes zero (sub inner rest) is at entry p s o by more = absurd (omega (arith, is))
    all_skipped why passes (suc n) (line rule rest) is at entry p s o by more =
        passes at o by (λ state rule. end_from state rule (rows kind serve n why rest (at + 1) entry p s ++ more))
        ∙ all_skipped why passes n rest (omega (arith, is)) (at + 1) entry p s o by more
    all_skipped why passes (suc n) (sub inner rest) is at entry p s o by more =
        ap (end_from o by) (append_assoc (rows_over why at inner) (rows kind serve n why rest (at + lines_in inner) entry p s) more)
        ∙ over_passes why passes inner at o by (rows kind serve n why rest (at + lines_in inner) entry p s ++ more)
        ∙ all_skipped why passes n rest (omega (arith, is)) (at + lines_in inner) entry p s o by more

    leads : (t : Stack) (skip : ℕ) (why : Fate) → (0 < skip → Passes why) → (at : ℕ) (entry o : Opinion) (s : State) (by : Option ℕ)
        → Leads o by (rows kind serve skip why t at entry o s) (walk kind serve skip t at entry o s)
    leads none skip why passes at entry o s by = leads_on o by s [] (λ more. refl)
    leads (line rule rest) (suc skip) why passes at entry o s by =
        let shown : List Row = rows kind serve skip why rest (at + 1) entry o s in
        leads_after o o by by shown (row_of at rule why ∷ shown) (walk kind serve skip rest (at + 1) entry o s)
        (λ more. passes (omega arith) at o by (λ state rule. end_from state rule (shown ++ more)))
        (leads rest skip why (λ some. passes (omega arith)) (at + 1) entry o s by)
    leads (sub inner rest) (suc skip) why passes at entry o s by =
        let shown : List Row = rows kind serve skip why rest (at + lines_in inner) entry o s in
        leads_after o o by by shown (rows_over why at inner ++ shown) (walk kind serve skip rest (at + lines_in inner) entry o s)
        (λ more. ap (end_from o by) (append_assoc (rows_over why at inner) shown more) ∙ over_passes why (passes (omega arith)) inner at o by (shown ++ more))
        (leads rest skip why (λ some. passes (omega arith)) (at + lines_in inner) entry o s by)
    leads (line rule rest) zero why passes at entry o s by =
        let left : ℕ = count rest in
        let v : Served State = serve rule at s in
        let action = action_at rule.control v.deciding in
        let new : Opinion = acted kind action v.answer v.deciding entry o in
        let last : Opinion = new_or_overrun action left new in
        let next : Next = next_of action left new in
        let here : Option ℕ = decider (is_same_state o last) at by in
        let shown : ℕ → Fate → List Row = λ n why. rows kind serve n why rest (at + 1) entry last v.state in
        let more_shown : List Row = shown (skip_of next left) (why_by next at) in
        let ran : List Row = row_of at rule (Ran v.answer v.deciding action last) ∷ more_shown in
        let w : Walked State = onward next (λ n. walk kind serve n rest (at + 1) entry last v.state) (walked last v.state) in
        leads_either v.stopped o by (row_of at rule Waits ∷ rows_over Unreached (at + 1) rest) ran (halted o v.state) w
        (record { waits = λ e. (at, λ more. refl); goes = λ e. absurd (true≢false e) })
        (leads_after o last by here more_shown ran w (λ more. refl)
        (leads_onward next left at last here shown (λ n. walk kind serve n rest (at + 1) entry last v.state) (walked last v.state)
        (λ n. leads rest n (Jumped at) (λ some at o by next. refl) (at + 1) entry last v.state here)
        (leads_on last here v.state (shown left (Ended at)) (all_skipped (Ended at) (λ at o by next. refl) left rest refl
        (at + 1) entry last v.state last here))))
    leads (sub inner rest) zero why passes at entry o s by =
        let inside : Walked State = walk kind serve zero inner at o o s in
        leads_past inside.stopped o by (rows kind serve zero why inner at o o s) (rows_over Unreached (at + lines_in inner) rest)
        (rows kind serve zero why rest (at + lines_in inner) entry inside.opinion inside.state) inside
        (walk kind serve zero rest (at + lines_in inner) entry inside.opinion inside.state) refl
        (leads inner zero why passes at o o s by)
        (λ last. leads rest zero why passes (at + lines_in inner) entry inside.opinion inside.state last)

  -- ---- the last line

  same_code : (w : Walked State) (b : Bool) → w.stopped ≡ b → code_of w ≡ (if b then Incomplete else verdict w.opinion)
  same_code w b is = ap (λ (c : Bool). if c then Incomplete else verdict w.opinion) is

  last_line : (b : Bool) (shown : List Row) (w : Walked State) → w.stopped ≡ b → Leads opening None shown w → EndsWith (code_of w) (end_text shown)
  last_line true shown w is d =
      let h = d.waits is in
      record {
        before = [];
        why = waits_at h.0;
        says = ap (end_from opening None) (sym (append-nil shown)) ∙ h.1 [] ∙ ap (λ (c : Code). return_line c (waits_at h.0)) (sym (same_code w true is));
      }
  last_line false shown w is d =
      let h = d.goes is in
      record {
        before = [];
        why = because h.0;
        says = ap (end_from opening None) (sym (append-nil shown)) ∙ h.1 [] ∙ decided_line w.opinion h.0 ∙ ap (λ (c : Code). return_line c (because h.0))
            (sym (same_code w false is));
      }

pub ends_longer : (code : Code) (before text : List ℕ) → EndsWith code text → EndsWith code (before ++ text)
ends_longer code before text e = record {
  before = before ++ e.before;
  why = e.why;
  says = ap (λ (x : List ℕ). before ++ x) e.says ∙ sym (append_assoc before e.before (return_line code e.why));
}

pub runs_end_with_their_code : RunsEndWithTheirCode
runs_end_with_their_code number func type kind origins kept stack past told =
    let shown : List Row = pass_rows kind kept stack past told in
    let w = pass_after kind kept replaying stack past told in
    let code : Code = code_of w in
    let d = leads kind (serving kind kept replaying) stack 0 Waits (λ some. absurd (omega (arith, some))) 1 opening opening (pass_state past [] told) None in
    ends_longer code (head_text number func type kind) _ (ends_longer code (flat_map (row_text origins) shown) (end_text shown)
    (last_line w.stopped shown w refl d))
