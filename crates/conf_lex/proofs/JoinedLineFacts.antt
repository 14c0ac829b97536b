-- The result for what is left of a text, one joined line at a time.
use Rattle.std.proofs.Common.{◌≡◌, ℕ, ◌+◌, ◌-◌, Bool, true, false, List, [], ◌∷◌, ◌++◌, length, Option, Some, None, Ok, Err, refl, sym, ap, ◌∙◌, arith, append-nil, length-append}
use Rattle.std.proofs.lemmas.Bool.{eqb-true}
use Rattle.std.specs.List.{flat_map, list_any}
use Rattle.conf_lex.specs.declared.token.Token.{Token}
use Rattle.conf_lex.specs.declared.token.RawRule.{RawRule}
use Rattle.conf_lex.specs.declared.token.LexFault.{LexFault}
use Rattle.conf_lex.specs.Piece.{Piece, newline, spelling, tokens_of, is_newline, is_open, at_line_end, Reads}
use Rattle.conf_lex.specs.Reading.{pieces_of, pieces_after}
use Rattle.conf_lex.specs.Rules.{newlines, JoinedLine, lines_of_pieces, numbered, rule_at, line_rules, line_fault, first_fault}
use Rattle.conf_lex.specs.Lexing.{EndsLine, fault_at, given, answer_of, answer_at, with_rules_first}
use Rattle.conf_lex.proofs.Once.{either, piece_again, reads_pieces}

lines_of-line : (ps qs : List Piece) → list_any is_newline ps ≡ false → lines_of_pieces (ps ++ newline ∷ qs) ≡ ps ∷ lines_of_pieces qs
lines_of-line [] qs e = refl
lines_of-line (p ∷ ps) qs e =
    let parts = either (is_newline p) (list_any is_newline ps) e in
    rw (parts.0, lines_of-line ps qs parts.1) refl

lines_of-last : (ps : List Piece) → list_any is_newline ps ≡ false → lines_of_pieces (ps ++ []) ≡ ps ∷ []
lines_of-last [] e = refl
lines_of-last (p ∷ ps) e =
    let parts = either (is_newline p) (list_any is_newline ps) e in
    rw (parts.0, lines_of-last ps parts.1) refl

abbrev line : ℕ → List Piece → JoinedLine
line n ps = record { first = n; pieces = ps }

-- the lines after one that ends with a newline
abbrev nul_kept : ℕ → List Piece → List ℕ → List JoinedLine
nul_kept n ps more = numbered (n + newlines (spelling ps) + 1) (lines_of_pieces (pieces_of more))

module _ (n : ℕ) (before : List ℕ) (ps : List Piece) (within : list_any is_newline ps ≡ false) where
  answer-line : (more : List ℕ) → Reads before ps (10 ∷ more) → answer_at n before ≡ answer_of (line n ps ∷ nul_kept n ps more)
  unfolding answer_at
  answer-line more r =
      let pieces : pieces_of before ≡ ps ++ newline ∷ pieces_of more = reads_pieces before ps (10 ∷ more) r ∙ ap (λ (qs : List Piece). ps ++ qs) (piece_again newline more refl) in
      rw (pieces, lines_of-line ps (pieces_of more) within) refl

  answer-last : Reads before ps [] → answer_at n before ≡ answer_of (line n ps ∷ [])
  unfolding answer_at pieces_after
  answer-last r = rw (reads_pieces before ps [] r, lines_of-last ps within) refl

  spelling_length : (after : List ℕ) → Reads before ps after → length before - length after ≡ length (spelling ps)
  spelling_length after r = omega (arith, ap length r.spelled, length-append (spelling ps) after)

  -- what is known of the line's fault
  line_fault_is : (after : List ℕ) (opened : Bool) (o : Option LexFault) → Reads before ps after → opened ≡ list_any is_open ps
      → o ≡ fault_at n (length before - length after) opened → line_fault (line n ps) ≡ o
  line_fault_is after opened o r open_is is = sym (is ∙ ap (λ (k : ℕ). fault_at n k opened) (spelling_length after r) ∙ ap (λ (b : Bool). fault_at n (length (spelling ps)) b) open_is)

  pub line_refused : (after : List ℕ) (opened : Bool) (f : LexFault) → Reads before ps after → at_line_end after ≡ true → opened ≡ list_any is_open ps
      → Some f ≡ fault_at n (length before - length after) opened → answer_at n before ≡ Err f
  line_refused [] opened f r end open_is is = answer-last r ∙ rw (line_fault_is [] opened (Some f) r open_is is) refl
  line_refused (b ∷ bs) opened f r end open_is is =
      let reads : Reads before ps (10 ∷ bs) = rw (eqb-true b 10 end) at r in
      answer-line bs reads ∙ rw (line_fault_is (b ∷ bs) opened (Some f) r open_is is) refl

given-front : (o : Option LexFault) (front rules : List RawRule) → given o (front ++ rules) ≡ with_rules_first front (given o rules)
given-front None front rules = refl
given-front (Some f) front rules = refl

answer-none : (m : ℕ) → answer_at m [] ≡ Ok []
unfolding answer_at pieces_after
answer-none m = refl

module _ (n m k : ℕ) (before : List ℕ) (ps : List Piece) (within : list_any is_newline ps ≡ false) where
  past_is : (bs : List ℕ) → n + newlines (spelling ps) + 1 ≡ m → answer_of (nul_kept n ps bs) ≡ answer_at m bs
  unfolding answer_at
  past_is bs e = ap (λ (i : ℕ). answer_of (numbered i (lines_of_pieces (pieces_of bs)))) e

  pub line_given : (after rest : List ℕ) (opened : Bool) (tokens : List Token) → Reads before ps after → opened ≡ list_any is_open ps
      → None ≡ fault_at n (length before - length after) opened → tokens ≡ tokens_of ps → k ≡ n + newlines (spelling ps) → EndsLine after rest k m
      → answer_at n before ≡ with_rules_first (rule_at n tokens) (answer_at m rest)
  line_given [] rest opened tokens r open_is is tokens_are lines ends =
      answer-last n before ps within r ∙ rw (line_fault_is n before ps within [] opened None r open_is is, ends.0, answer-none m, tokens_are) refl
  line_given (b ∷ bs) rest opened tokens r open_is is tokens_are lines ends =
      let reads : Reads before ps (10 ∷ bs) = rw ends.0 at r in
      let number : n + newlines (spelling ps) + 1 ≡ m = omega (arith, lines, ends.2) in
      answer-line n before ps within bs reads ∙ rw (line_fault_is n before ps within (b ∷ bs) opened None r open_is is, tokens_are, ends.1) (given-front (first_fault (nul_kept n ps bs)) (rule_at n (tokens_of ps)) (flat_map line_rules (nul_kept n ps bs)) ∙ ap (with_rules_first (rule_at n (tokens_of ps))) (past_is bs number))

-- nothing is left
pub answer_end : (m : ℕ) (rest : List ℕ) (rules : List RawRule) → length rest ≡ 0 → with_rules_first rules (answer_at m rest) ≡ Ok rules
answer_end m [] rules e = rw (answer-none m) (ap Ok (append-nil rules))
answer_end m (b ∷ bs) rules e = absurd (omega arith)
