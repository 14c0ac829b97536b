-- The line of a chain at an index is the line of the stack at that index.
use Rattle.std.proofs.Common.{◌≡◌, ℕ, zero, suc, ◌+◌, ◌<◌, ◌≤◌, Some, None, if◌then◌else◌, true, false, nat_le, List, [], ◌∷◌, length, get_or, drop, refl, sym, ◌∙◌, ap, subst, zero-add, add-zero, add-one, arith}
use Rattle.std.proofs.lemmas.Bool.Decides.{nat_tests}
use Rattle.control_words.specs.Stack.{Stack, none, line, sub, count, lines_in}
use Rattle.handler_chain.specs.declared.chain_line.ChainLine.{ChainLine}
use Rattle.handler_chain.specs.FlatLines.{FlatLine, flat_lines, lines_in_first, level_at, opens_at, end_at, target_at, rule_at, module_at, module_of, no_rule}
use Rattle.handler_chain.specs.Flat.{IsChainLine, AreLines, IsFlat}
use Rattle.handler_chain.specs.Chain.{ChainView}
use Rattle.handler_chain.proofs.StackLineFacts.{flat_lines-count, at_line-stands, line_within}

are-count : (names : List (List ℕ)) (positions : List ℕ) (i : ℕ) (ss : List FlatLine) (es : List ChainLine) → AreLines names positions i ss es
    → length es ≡ length ss
are-count names positions i [] [] are = refl
are-count names positions i (s ∷ ss) (e ∷ es) are = omega (arith, are-count names positions (i + 1) ss es are.1)
are-count names positions i [] (e ∷ es) are = absurd are
are-count names positions i (s ∷ ss) [] are = absurd are

pub flat-count : (stack : Stack) (names : List (List ℕ)) (lines : List ChainLine) (positions : List ℕ) → IsFlat stack names lines positions
    → length lines ≡ lines_in stack
flat-count stack names lines positions flat = are-count names positions 0 (flat_lines 0 0 stack) lines flat.are ∙ flat_lines-count stack 0 0

are_at : (names : List (List ℕ)) (positions : List ℕ) (first i : ℕ) (ss : List FlatLine) (es : List ChainLine) (e : ChainLine)
    → AreLines names positions first ss es → i < length es → e ≡ get_or es i e
    → (s : FlatLine) × ((drop i ss ≡ s ∷ drop (i + 1) ss) × IsChainLine names positions (first + i) s e)
are_at names positions first i [] [] e are within is = absurd (omega (arith, within))
are_at names positions first zero (s ∷ ss) (f ∷ es) e are within is = (s, (refl, rw (is, add-zero first) are.0))
are_at names positions first (suc i) (s ∷ ss) (f ∷ es) e are within is =
    let rest = are_at names positions (first + 1) i ss es e are.1 (omega arith) is in (
      rest.0,
      (
        rest.1.0 ∙ ap (λ n. rest.0 ∷ drop n (s ∷ ss)) (let g : suc (i + 1) ≡ suc i + 1 = omega arith in g),
        subst (λ n. IsChainLine names positions n rest.0 e) (let g : first + 1 + i ≡ first + suc i = omega arith in g) rest.1.1,
      ),
    )
are_at names positions first i [] (f ∷ es) e are within is = absurd are
are_at names positions first i (s ∷ ss) [] e are within is = absurd are

-- what the accessors return
pub record Answers (stack : Stack) (names : List (List ℕ)) (positions : List ℕ) (i : ℕ) (e : ChainLine) : Type 0 where
  pub rule : rule_at stack i ≡ e.rule
  pub module_number : e.module_number ≡ module_at stack names i
  pub level : e.level ≡ level_at stack i
  pub opens : e.opens ≡ opens_at stack i
  pub deep : e.level ≤ 16
  pub shallow : e.opens ≤ e.level
  pub room : e.past_end + e.left < length positions
  pub end : get_or positions (e.past_end + e.left) 0 ≡ end_at stack i
  pub near : (n : ℕ) → n ≤ e.left → Some (get_or positions (e.past_end + n) 0) ≡ target_at stack i n
  pub far : (n : ℕ) → e.left < n → None ≡ target_at stack i n

pub all_front : (t : Stack) → lines_in_first (count t) t ≡ lines_in t
all_front none = refl
all_front (line rule rest) = ap (λ n. lines_in_first n (line rule rest)) (add-one (count rest)) ∙ ap (λ n. n + 1) (all_front rest)
all_front (sub inner rest) = ap (λ n. lines_in_first n (sub inner rest)) (add-one (count rest)) ∙ ap (λ n. lines_in inner + n) (all_front rest)

pub answers : (stack : Stack) (names : List (List ℕ)) (lines : List ChainLine) (positions : List ℕ) (i : ℕ) (e : ChainLine)
    → IsFlat stack names lines positions → i < lines_in stack → e ≡ get_or lines i e → Answers stack names positions i e
answers stack names lines positions i e flat within is =
    let found = are_at names positions 0 i (flat_lines 0 0 stack) lines e flat.are (omega (arith, within, flat-count stack names lines positions flat)) is in
    let s : FlatLine = found.0 in
    let stands : drop i (flat_lines 0 0 stack) ≡ s ∷ drop (i + 1) (flat_lines 0 0 stack) = found.1.0 in
    let line : IsChainLine names positions i s e = subst (λ n. IsChainLine names positions n s e) (zero-add i) found.1.1 in
    let bounds = line_within stack i s _ stands in
    let rest : Stack = s.rest in
    let left : e.left ≡ count rest = line.left in
    record {
      rule = at_line-stands no_rule (λ s. s.rule) stack i s _ stands ∙ sym line.rule;
      module_number = line.module_number ∙ sym (at_line-stands None (λ s. module_of names s.rule) stack i s _ stands);
      level = line.level ∙ sym (at_line-stands 0 (λ s. s.level) stack i s _ stands);
      opens = line.opens ∙ sym (at_line-stands 0 (λ s. s.opens) stack i s _ stands);
      deep = omega (arith, line.level, bounds.0, flat.shallow);
      shallow = omega (arith, line.level, line.opens, bounds.1);
      room = omega (arith, left, line.past_end.room);
      end = rw left (line.past_end.placed (count rest) (omega arith) ∙ ap (λ n. i + 1 + n) (all_front rest) ∙ sym (at_line-stands 0 (λ s. i + 1 + lines_in s.rest) stack i s _ stands));
      near = λ n few.
          let fits : n ≤ count rest = omega (arith, few, left) in
          let test : nat_le n (count rest) ≡ true = grind (arith, nat_tests) in
          ap (λ n. Some n) (line.past_end.placed n fits) ∙ rw (at_line-stands None (λ s. if nat_le n (count s.rest) then Some (i + 1 + lines_in_first n s.rest) else None) stack i s _ stands, test) refl;
      far = λ n many.
          let test : nat_le n (count rest) ≡ false = grind (arith, nat_tests) in
          rw (at_line-stands None (λ s. if nat_le n (count s.rest) then Some (i + 1 + lines_in_first n s.rest) else None) stack i s _ stands, test) refl;
    }

-- the same, for what contracts see
abbrev view_of : Stack → List (List ℕ) → ℕ → ChainView
view_of nodes names looks = record { nodes = nodes; names = names; looks = looks }

pub view-count : (chain : ChainView) (nodes : Stack) (names : List (List ℕ)) (looks : ℕ) (lines : List ChainLine) (positions : List ℕ)
    → view_of nodes names looks ≡ chain → IsFlat nodes names lines positions
    → length lines ≡ lines_in chain.nodes
view-count chain nodes names looks lines positions is flat = flat-count nodes names lines positions flat ∙ ap (λ s. lines_in s.nodes) is

pub view_answers : (chain : ChainView) (nodes : Stack) (names : List (List ℕ)) (looks : ℕ) (lines : List ChainLine) (positions : List ℕ) (i : ℕ) (e : ChainLine)
    → view_of nodes names looks ≡ chain → IsFlat nodes names lines positions
    → i < lines_in chain.nodes → e ≡ get_or lines i e → Answers chain.nodes chain.names positions i e
view_answers chain nodes names looks lines positions i e is flat within found =
    answers chain.nodes chain.names lines positions i e (subst (λ (s : ChainView). IsFlat s.nodes s.names lines positions) is flat) within found
