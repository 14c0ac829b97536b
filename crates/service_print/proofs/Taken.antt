-- The tokens of a text's rules can be printed.
use Rattle.std.proofs.Common.{◌≡◌, ℕ, ◌+◌, Bool, true, false, not, ◌||◌, ◌&&◌, cond, eqb, nat_lt, List, [], ◌∷◌, ◌++◌, length, Option, Some, None, Ok, Err, refl, sym, ap, ◌∙◌, append-nil, inl, inr}
use Rattle.std.specs.List.{flat_map, list_all, list_any}
use Rattle.std.proofs.lemmas.Bool.{cases_Bool, and_parts, and_from, not-true, not_from_false, or_parts, or_from, false≢true, true≢false, and_left, and_right}
use Rattle.std.proofs.lemmas.List.Folds.{list_all-append}
use Rattle.pam_base.specs.White.{is_white}
use Rattle.pam_base.specs.declared.fault.FaultKind.TheVariants.{FileTooLong}
use Rattle.conf_lex.specs.declared.token.Token.{Token}
use Rattle.conf_lex.specs.declared.token.RawRule.{RawRule}
use Rattle.conf_lex.specs.declared.token.LexFault.{LexFault}
use Rattle.conf_lex.specs.Piece.{BracketUnit, escaped, joined, single, unit_bytes, unit_text, units_bytes, units_text, unit_may_precede, units_may_precede, is_single, begins_with, begins_join, at_line_end, goes_on, all_go_on, Piece, newline, white, join, plain, bracket, open_bracket, comment, piece_bytes, piece_tokens, spelling, tokens_of, may_precede, all_may_precede, is_newline, IsReading}
use Rattle.conf_lex.specs.Reading.{pieces_of}
use Rattle.conf_lex.specs.Rules.{newlines, put_before, lines_of_pieces, numbered, rule_at, line_rules, first_fault}
use Rattle.conf_lex.specs.Lexing.{nul_line, given, answer_at}
use Rattle.conf_lex.specs.Answer.{answer_unless_nul, answer_to}
use Rattle.service_print.specs.Tokens.{ends_token, wants_brackets}
use Rattle.service_print.proofs.Spelled.{last_is, is_inner, last_is-append}
use Rattle.service_print.proofs.Lexed.{is_set}
use Rattle.service_print.proofs.Fielded.{can_stand}

abbrev pub Reading : Type 0
Reading = (text : List ℕ) → IsReading text (pieces_of text)

-- ---- a token without brackets

goes_on_plain : (b : ℕ) (more : List ℕ) → goes_on (b ∷ more) ≡ true → (is_white b ≡ false) × (eqb b 35 ≡ false) × (eqb b 10 ≡ false)
goes_on_plain b more on =
    let all = or_parts (is_white b || eqb b 35 || eqb b 10) (begins_join (b ∷ more)) (not-true (is_white b || eqb b 35 || eqb b 10 || begins_join (b ∷ more)) on) in
    let some = or_parts (is_white b || eqb b 35) (eqb b 10) all.0 in
    let two = or_parts (is_white b) (eqb b 35) some.0 in
    (two.0, two.1, some.1)

run_inner : (run rest : List ℕ) → all_go_on run rest ≡ true → list_all is_inner run ≡ true
run_inner [] rest on = refl
run_inner (b ∷ bs) rest on =
    let parts = and_parts (goes_on (b ∷ (bs ++ rest))) (all_go_on bs rest) on in
    and_from (is_inner b) (list_all is_inner bs) (not_from_false (eqb b 10) (goes_on_plain b (bs ++ rest) parts.0).2) (run_inner bs rest parts.1)

run_unended : (run rest : List ℕ) → all_go_on run rest ≡ true → list_any ends_token run ≡ false
run_unended [] rest on = refl
run_unended (b ∷ bs) rest on =
    let parts = and_parts (goes_on (b ∷ (bs ++ rest))) (all_go_on bs rest) on in
    let here = goes_on_plain b (bs ++ rest) parts.0 in
    or_from (ends_token b) (list_any ends_token bs) (or_from (is_white b) (eqb b 35) here.0 here.1) (run_unended bs rest parts.1)

run_wants : (run rest : List ℕ) → may_precede (plain run) rest ≡ true → wants_brackets run ≡ false
run_wants [] rest stand = absurd (false≢true stand)
run_wants (b ∷ bs) rest stand =
    let third = and_parts (not (eqb b 10) && not (eqb b 91) && all_go_on (b ∷ bs) rest) (not (goes_on rest)) stand in
    let second = and_parts (not (eqb b 10) && not (eqb b 91)) (all_go_on (b ∷ bs) rest) third.0 in
    let first = and_parts (not (eqb b 10)) (not (eqb b 91)) second.0 in
    or_from (eqb b 91) (list_any ends_token (b ∷ bs)) (not-true (eqb b 91) first.1) (run_unended (b ∷ bs) rest second.1)

run_on : (run rest : List ℕ) → may_precede (plain run) rest ≡ true → all_go_on run rest ≡ true
run_on run rest stand =
    let third = and_parts (not (at_line_end run) && not (begins_with 91 run) && all_go_on run rest) (not (goes_on rest)) stand in
    (and_parts (not (at_line_end run) && not (begins_with 91 run)) (all_go_on run rest) third.0).1

can_stand_by : (text : List ℕ) → list_all is_inner text ≡ true → list_all is_set text ≡ true → (wants_brackets text && last_is 92 text) ≡ false
    → can_stand text ≡ true
can_stand_by text inner set last = and_from (list_all is_inner text && list_all is_set text) (not (wants_brackets text && last_is 92 text)) (and_from (list_all is_inner text) (list_all is_set text) inner set) (not_from_false (wants_brackets text && last_is 92 text) last)

run_can : (run rest : List ℕ) → may_precede (plain run) rest ≡ true → list_all is_set run ≡ true → can_stand run ≡ true
run_can run rest stand set = can_stand_by run (run_inner run rest (run_on run rest stand)) set (and_left (wants_brackets run) (last_is 92 run) (run_wants run rest stand))

-- ---- a token in brackets

single_parts : (b : ℕ) (more : List ℕ) → is_single (b ∷ more) ≡ true → (eqb b 10 ≡ false) × ((eqb b 92 && begins_with 93 more) ≡ false)
single_parts b more is =
    let all = or_parts (eqb b 93 || eqb b 10 || (eqb b 92 && begins_with 93 more)) (begins_join (b ∷ more)) (not-true (eqb b 93 || eqb b 10 || (eqb b 92 && begins_with 93 more) || begins_join (b ∷ more)) is) in
    let some = or_parts (eqb b 93 || eqb b 10) (eqb b 92 && begins_with 93 more) all.0 in
    ((or_parts (eqb b 93) (eqb b 10) some.0).1, some.1)

unit_inner : (unit : BracketUnit) (rest : List ℕ) → unit_may_precede unit rest ≡ true → list_all is_inner (unit_text unit) ≡ true
unit_inner escaped rest stand = refl
unit_inner (joined j) rest stand = refl
unit_inner (single b) rest stand = and_from (is_inner b) true (not_from_false (eqb b 10) (single_parts b rest stand).0) refl

units_inner : (units : List BracketUnit) (rest : List ℕ) → units_may_precede units rest ≡ true → list_all is_inner (units_text units) ≡ true
units_inner [] rest stand = refl
units_inner (unit ∷ units) rest stand =
    let parts = and_parts (unit_may_precede unit (units_bytes units ++ rest)) (units_may_precede units rest) stand in
    list_all-append is_inner (unit_text unit) (units_text units) ∙ and_from (list_all is_inner (unit_text unit)) (list_all is_inner (units_text units)) (unit_inner unit (units_bytes units ++ rest) parts.0) (units_inner units rest parts.1)

unit_set : (unit : BracketUnit) → list_all is_set (unit_bytes unit) ≡ true → list_all is_set (unit_text unit) ≡ true
unit_set escaped set = refl
unit_set (joined j) set = refl
unit_set (single b) set = set

units_set : (units : List BracketUnit) → list_all is_set (units_bytes units) ≡ true → list_all is_set (units_text units) ≡ true
units_set [] set = refl
units_set (unit ∷ units) set =
    let parts = and_parts (list_all is_set (unit_bytes unit)) (list_all is_set (units_bytes units)) (sym (list_all-append is_set (unit_bytes unit) (units_bytes units)) ∙ set) in
    list_all-append is_set (unit_text unit) (units_text units) ∙ and_from (list_all is_set (unit_text unit)) (list_all is_set (units_text units)) (unit_set unit parts.0) (units_set units parts.1)

-- the text of a unit before a `]` doesn't end with a backslash
last_unit : (unit : BracketUnit) (rest : List ℕ) → unit_may_precede unit (93 ∷ rest) ≡ true → last_is 92 (unit_text unit) ≡ false
last_unit escaped rest stand = refl
last_unit (joined j) rest stand = refl
last_unit (single b) rest stand = elim (cases_Bool (eqb b 92)) [ inl y ↦ absurd (true≢false (sym (and_from (eqb b 92) true y refl) ∙ (single_parts b (93 ∷ rest) stand).1)) | inr n ↦ n ]

pub record IsOne (text : List ℕ) : Type 0 where
  pub byte : ℕ
  pub is : text ≡ byte ∷ []

unit_one : (unit : BracketUnit) → IsOne (unit_text unit)
unit_one escaped = record { byte = 93; is = refl }
unit_one (joined j) = record { byte = 32; is = refl }
unit_one (single b) = record { byte = b; is = refl }

units_last : (units : List BracketUnit) (rest : List ℕ) → units_may_precede units (93 ∷ rest) ≡ true → last_is 92 (units_text units) ≡ false
units_last [] rest stand = refl
units_last (unit ∷ []) rest stand = ap (last_is 92) (append-nil (unit_text unit)) ∙ last_unit unit rest (and_parts (unit_may_precede unit (93 ∷ rest)) true stand).0
units_last (unit ∷ next ∷ units) rest stand =
    let parts = and_parts (unit_may_precede unit (units_bytes (next ∷ units) ++ 93 ∷ rest)) (units_may_precede (next ∷ units) (93 ∷ rest)) stand in
    let one = unit_one next in
    let is : units_text (next ∷ units) ≡ one.byte ∷ units_text units = ap (λ (t : List ℕ). t ++ units_text units) one.is in
    ap (λ (t : List ℕ). last_is 92 (unit_text unit ++ t)) is ∙ last_is-append 92 one.byte (unit_text unit) (units_text units) ∙ ap (last_is 92) (sym is) ∙ units_last (next ∷ units) rest parts.1

units_can : (units : List BracketUnit) (rest : List ℕ) → units_may_precede units (93 ∷ rest) ≡ true → list_all is_set (units_bytes units) ≡ true
    → can_stand (units_text units) ≡ true
units_can units rest stand set =
    can_stand_by (units_text units) (units_inner units (93 ∷ rest) stand) (units_set units set)
    (and_right (wants_brackets (units_text units)) (last_is 92 (units_text units)) (units_last units rest stand))

-- ---- pieces

-- whether a token's text can be printed
abbrev pub is_good : Token → Bool
is_good token = can_stand token.text

abbrev good_piece : Piece → Bool
good_piece piece = list_all is_good (piece_tokens piece)

piece_good : (piece : Piece) (rest : List ℕ) → may_precede piece rest ≡ true → list_all is_set (piece_bytes piece) ≡ true → good_piece piece ≡ true
piece_good newline rest stand set = refl
piece_good (white b) rest stand set = refl
piece_good (join j) rest stand set = refl
piece_good (plain run) rest stand set = and_from (can_stand run) true (run_can run rest stand set) refl
piece_good (bracket units) rest stand set =
    let parts = and_parts (list_all is_set (units_bytes units)) (is_set 93 && true) (sym (list_all-append is_set (units_bytes units) (93 ∷ [])) ∙ set) in
    and_from (can_stand (units_text units)) true (units_can units rest stand parts.0) refl
piece_good (open_bracket units) rest stand set = refl
piece_good (comment text) rest stand set = refl

pieces_good : (pieces : List Piece) (rest : List ℕ) → all_may_precede pieces rest ≡ true → list_all is_set (spelling pieces) ≡ true
    → list_all good_piece pieces ≡ true
pieces_good [] rest stand set = refl
pieces_good (piece ∷ pieces) rest stand set =
    let stands_all = and_parts (may_precede piece (spelling pieces ++ rest)) (all_may_precede pieces rest) stand in
    let sets = and_parts (list_all is_set (piece_bytes piece)) (list_all is_set (spelling pieces)) (sym (list_all-append is_set (piece_bytes piece) (spelling pieces)) ∙ set) in
    and_from (good_piece piece) (list_all good_piece pieces) (piece_good piece (spelling pieces ++ rest) stands_all.0 sets.0) (pieces_good pieces rest stands_all.1 sets.1)

-- ---- rules

abbrev good_line : List Piece → Bool
good_line pieces = list_all good_piece pieces

put_before_good : (piece : Piece) (lines : List (List Piece)) → good_piece piece ≡ true → list_all good_line lines ≡ true
    → list_all good_line (put_before piece lines) ≡ true
put_before_good piece [] good all = and_from (good_line (piece ∷ [])) true (and_from (good_piece piece) true good refl) refl
put_before_good piece (l ∷ ls) good all =
    let parts = and_parts (good_line l) (list_all good_line ls) all in
    and_from (good_line (piece ∷ l)) (list_all good_line ls) (and_from (good_piece piece) (good_line l) good parts.0) parts.1

lines_good : (pieces : List Piece) → list_all good_piece pieces ≡ true → list_all good_line (lines_of_pieces pieces) ≡ true
lines_good [] good = refl
lines_good (piece ∷ pieces) good =
    let parts = and_parts (good_piece piece) (list_all good_piece pieces) good in
    elim (cases_Bool (is_newline piece)) [
      | inl y ↦ rw y (lines_good pieces parts.1)
      | inr n ↦ rw n (put_before_good piece (lines_of_pieces pieces) parts.0 (lines_good pieces parts.1))
    ]

line_tokens_good : (pieces : List Piece) → good_line pieces ≡ true → list_all is_good (tokens_of pieces) ≡ true
line_tokens_good [] good = refl
line_tokens_good (piece ∷ pieces) good =
    let parts = and_parts (good_piece piece) (good_line pieces) good in
    list_all-append is_good (piece_tokens piece) (tokens_of pieces) ∙ and_from (list_all is_good (piece_tokens piece)) (list_all is_good (tokens_of pieces)) parts.0 (line_tokens_good pieces parts.1)

abbrev pub good_rule : RawRule → Bool
good_rule rule = list_all is_good rule.tokens

rule_at_good : (number : ℕ) (tokens : List Token) → list_all is_good tokens ≡ true → list_all good_rule (rule_at number tokens) ≡ true
rule_at_good number [] good = refl
rule_at_good number (token ∷ tokens) good = and_from (list_all is_good (token ∷ tokens)) true good refl

rules_good : (number : ℕ) (lines : List (List Piece)) → list_all good_line lines ≡ true
    → list_all good_rule (flat_map line_rules (numbered number lines)) ≡ true
rules_good number [] good = refl
rules_good number (l ∷ ls) good =
    let parts = and_parts (good_line l) (list_all good_line ls) good in
    let more = flat_map line_rules (numbered (number + newlines (spelling l) + 1) ls) in
    list_all-append good_rule (rule_at number (tokens_of l)) more
    ∙ and_from (list_all good_rule (rule_at number (tokens_of l))) (list_all good_rule more) (rule_at_good number (tokens_of l) (line_tokens_good l parts.0)) (rules_good (number + newlines (spelling l) + 1) ls parts.1)

given_rules : (fault : Option LexFault) (rules others : List RawRule) → given fault rules ≡ Ok others → rules ≡ others
given_rules None rules others is = cc
given_rules (Some fault) rules others is = absurd cc

all_set : (number : ℕ) (text : List ℕ) → nul_line number text ≡ None → list_all is_set text ≡ true
all_set number [] none = refl
all_set number (b ∷ bs) none =
    elim (cases_Bool (eqb b 0)) [
      | inl y ↦ (let some : cond (eqb b 0) (Some number) (nul_line (number + newlines (b ∷ [])) bs) ≡ Some number = ap (λ (c : Bool). cond c (Some number) (nul_line (number + newlines (b ∷ [])) bs)) y in absurd cc)
      | inr n ↦
          (let rest : cond (eqb b 0) (Some number) (nul_line (number + newlines (b ∷ [])) bs) ≡ nul_line (number + newlines (b ∷ [])) bs = ap (λ (c : Bool). cond c (Some number) (nul_line (number + newlines (b ∷ [])) bs)) n in
          and_from (is_set b) (list_all is_set bs) (not_from_false (eqb b 0) n) (all_set (number + newlines (b ∷ [])) bs (sym rest ∙ none)))
    ]

lexed_good : Reading → (text : List ℕ) (rules : List RawRule) → list_all is_set text ≡ true → answer_at 1 text ≡ Ok rules → list_all good_rule rules ≡ true
unfolding answer_at
lexed_good reading text rules set answer =
    let read = reading text in
    let bytes : list_all is_set (spelling (pieces_of text)) ≡ true = ap (list_all is_set) (sym (append-nil (spelling (pieces_of text))) ∙ sym read.spelled) ∙ set in
    let same = given_rules (first_fault (numbered 1 (lines_of_pieces (pieces_of text)))) (flat_map line_rules (numbered 1 (lines_of_pieces (pieces_of text)))) rules answer in
    ap (list_all good_rule) (sym same) ∙ rules_good 1 (lines_of_pieces (pieces_of text)) (lines_good (pieces_of text) (pieces_good (pieces_of text) [] read.stand bytes))

unless_good : Reading → (text : List ℕ) (rules : List RawRule) (o : Option ℕ) → nul_line 1 text ≡ o → answer_unless_nul o text ≡ Ok rules
    → list_all good_rule rules ≡ true
unless_good reading text rules None none answer = lexed_good reading text rules (all_set 1 text none) answer
unless_good reading text rules (Some n) none answer = absurd cc

-- the tokens of a text's rules can be printed
pub text_good : Reading → (text : List ℕ) (rules : List RawRule) → answer_to text ≡ Ok rules → list_all good_rule rules ≡ true
unfolding answer_to
text_good reading text rules answer =
    elim (cases_Bool (nat_lt 65536 (length text))) [
      | inl y ↦ absurd cc
      | inr n ↦ unless_good reading text rules (nul_line 1 text) refl (sym (ap (λ (b : Bool). cond b (Err (record { line = 0; kind = FileTooLong })) (answer_unless_nul (nul_line 1 text) text)) n) ∙ answer)
    ]
