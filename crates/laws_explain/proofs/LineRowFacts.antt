-- Each line of a walk has one row, whether it was run or not.
use Rattle.std.proofs.Common.{◌≡◌, ℕ, zero, suc, ◌+◌, Bool, true, false, if◌then◌else◌, List, [], ◌∷◌, ◌++◌, map, refl, sym, ◌∙◌, ap, arith}
use Rattle.std.proofs.lemmas.List.{map-append}
use Rattle.std.specs.List.{range_with_len}
use Rattle.control_words.specs.declared.nodes.Rule.{Rule}
use Rattle.control_words.specs.Control.{action_at}
use Rattle.control_words.specs.Stack.{Stack, none, line, sub, count, lines_in}
use Rattle.handler_chain.specs.declared.opinion.Opinion.{Opinion}
use Rattle.handler_chain.specs.declared.pass_kind.PassKind.{PassKind}
use Rattle.handler_chain.specs.Opinion.{acted, opening}
use Rattle.handler_chain.specs.Pass.{pass_state, serving}
use Rattle.handler_chain.specs.Retell.{replaying}
use Rattle.handler_chain.specs.Walk.{Serving, next_of, new_or_overrun, walk}
use Rattle.pass_replay.specs.Walk.{skip_of}
use Rattle.explain_lines.specs.declared.row.Fate.{Fate}
use Rattle.explain_lines.specs.declared.row.Fate.TheVariants.{Ran, Waits, Unreached}
use Rattle.explain_lines.specs.declared.row.Row.{Row}
use Rattle.explain_lines.specs.Rows.{row_of}
use Rattle.explain_calls.specs.Rows.{rows, rows_over, why_by}
use Rattle.laws_explain.specs.Rows.{EachRuleHasOneRow, rules_in}

-- ---- what is read of each row, if it doesn't depend on what became of the line

abbrev keys : {K : Type 0} → (ℕ → Rule → K) → ℕ → Stack → List K
keys key at none = []
keys key at (line rule rest) = key at rule ∷ keys key (at + 1) rest
keys key at (sub inner rest) = keys key at inner ++ keys key (at + lines_in inner) rest

module _ (K : Type 0) (read : Row → K) (key : ℕ → Rule → K) (reads : (at : ℕ) (rule : Rule) (fate : Fate) → read (row_of at rule fate) ≡ key at rule) where
  one_more : (at : ℕ) (rule : Rule) (fate : Fate) (shown : List Row) (ks : List K) → map read shown ≡ ks
      → map read (row_of at rule fate ∷ shown) ≡ key at rule ∷ ks
  one_more at rule fate shown ks is = ap (λ (k : K). k ∷ map read shown) (reads at rule fate) ∙ ap (λ (xs : List K). key at rule ∷ xs) is

  both : (xs ys : List Row) (ks ls : List K) → map read xs ≡ ks → map read ys ≡ ls → map read (xs ++ ys) ≡ ks ++ ls
  both xs ys ks ls one two = map-append read xs ys ∙ ap (λ (zs : List K). zs ++ map read ys) one ∙ ap (λ (zs : List K). ks ++ zs) two

  either : (b : Bool) (xs ys : List Row) (ks : List K) → map read xs ≡ ks → map read ys ≡ ks → map read (if b then xs else ys) ≡ ks
  either true xs ys ks one two = one
  either false xs ys ks one two = two

  over_keys : (why : Fate) (at : ℕ) (t : Stack) → map read (rows_over why at t) ≡ keys key at t
  over_keys why at none = refl
  over_keys why at (line rule rest) = one_more at rule why _ _ (over_keys why (at + 1) rest)
  over_keys why at (sub inner rest) = both _ _ _ _ (over_keys why at inner) (over_keys why (at + lines_in inner) rest)

  module _ {State : Type 0} (kind : PassKind) (serve : Serving State) where
    row_keys : (skip : ℕ) (why : Fate) (t : Stack) (at : ℕ) (entry o : Opinion) (s : State) → map read (rows kind serve skip why t at entry o s) ≡ keys key at t
    row_keys skip why none at entry o s = refl
    row_keys (suc skip) why (line rule rest) at entry o s = one_more at rule why _ _ (row_keys skip why rest (at + 1) entry o s)
    row_keys (suc skip) why (sub inner rest) at entry o s = both _ _ _ _ (over_keys why at inner) (row_keys skip why rest (at + lines_in inner) entry o s)
    row_keys zero why (line rule rest) at entry o s =
        let served = serve rule at s in
        let action = action_at rule.control served.deciding in
        let new = acted kind action served.answer served.deciding entry o in
        let last = new_or_overrun action (count rest) new in
        let next = next_of action (count rest) new in
        either served.stopped _ _ (keys key at (line rule rest))
        (one_more at rule Waits _ _ (over_keys Unreached (at + 1) rest))
        (one_more at rule (Ran served.answer served.deciding action last) _ _
        (row_keys (skip_of next (count rest)) (why_by next at) rest (at + 1) entry last served.state))
    row_keys zero why (sub inner rest) at entry o s =
        let inside = walk kind serve zero inner at o o s in
        both _ _ _ _ (row_keys zero why inner at o o s)
        (either inside.stopped _ _ (keys key (at + lines_in inner) rest)
        (over_keys Unreached (at + lines_in inner) rest)
        (row_keys zero why rest (at + lines_in inner) entry inside.opinion inside.state))

-- ---- rule numbers

range-append : (at m n : ℕ) → range_with_len at (m + n) ≡ range_with_len at m ++ range_with_len (at + m) n
range-append at zero n =
    let none : zero + n ≡ n = omega arith in
    let here : at ≡ at + zero = omega arith in
    ap (range_with_len at) none ∙ ap (λ (k : ℕ). range_with_len k n) here
range-append at (suc m) n =
    let more : suc m + n ≡ suc (m + n) = omega arith in
    let on : at + 1 + m ≡ at + suc m = omega arith in
    ap (range_with_len at) more
    ∙ ap (λ (xs : List ℕ). at ∷ xs) (range-append (at + 1) m n ∙ ap (λ (k : ℕ). range_with_len (at + 1) m ++ range_with_len k n) on)

numbers_are : (t : Stack) (at : ℕ)
    → keys {K = ℕ} (λ at rule. at) at t ≡ range_with_len at (lines_in t)
numbers_are none at = refl
numbers_are (line rule rest) at =
    let more : suc (lines_in rest) ≡ lines_in rest + 1 = omega arith in
    ap (λ (xs : List ℕ). at ∷ xs) (numbers_are rest (at + 1)) ∙ ap (range_with_len at) more
numbers_are (sub inner rest) at =
    ap (λ (xs : List ℕ). xs ++ keys {K = ℕ} (λ at rule. at) (at + lines_in inner) rest) (numbers_are inner at)
    ∙ ap (λ (xs : List ℕ). range_with_len at (lines_in inner) ++ xs) (numbers_are rest (at + lines_in inner))
    ∙ sym (range-append at (lines_in inner) (lines_in rest))

-- ---- paths

paths_are : (t : Stack) (at : ℕ)
    → keys {K = List ℕ} (λ at rule. rule.path) at t ≡ map (λ (rule : Rule). rule.path) (rules_in t)
paths_are none at = refl
paths_are (line rule rest) at = ap (λ (xs : List (List ℕ)). rule.path ∷ xs) (paths_are rest (at + 1))
paths_are (sub inner rest) at =
    ap (λ (xs : List (List ℕ)). xs ++ keys {K = List ℕ} (λ at rule. rule.path) (at + lines_in inner) rest) (paths_are inner at)
    ∙ ap (λ (xs : List (List ℕ)). map (λ (rule : Rule). rule.path) (rules_in inner) ++ xs) (paths_are rest (at + lines_in inner))
    ∙ sym (map-append (λ (rule : Rule). rule.path) (rules_in inner) (rules_in rest))

-- ---- the law

pub each_rule_has_one_row : EachRuleHasOneRow
each_rule_has_one_row kind kept stack past told = record {
  numbered = row_keys ℕ (λ (r : Row). r.place) (λ at rule. at) (λ at rule fate. refl) kind (serving kind kept replaying) 0 Waits stack 1 opening opening
      (pass_state past [] told)
      ∙ numbers_are stack 1;
  named = row_keys (List ℕ) (λ (r : Row). r.path) (λ at rule. rule.path) (λ at rule fate. refl) kind
      (serving kind kept replaying) 0 Waits stack 1 opening opening (pass_state past [] told)
      ∙ paths_are stack 1;
}
