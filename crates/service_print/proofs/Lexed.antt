-- A text of printed lines: its rules are the tokens of the lines, in the lines' order.
use Rattle.std.proofs.Common.{◌≡◌, ℕ, ◌+◌, ◌≤◌, Bool, true, false, not, ◌&&◌, cond, eqb, nat_le, List, [], ◌∷◌, ◌++◌, length, map, None, Ok, refl, sym, ap, ◌∙◌, arith, append_assoc, append-nil, inl, inr, add-zero}
use Rattle.std.specs.List.{flat_map, list_all, list_any}
use Rattle.std.proofs.lemmas.Bool.{cases_Bool, and_parts, and_from, not-true, not_from_false, le-ltb, leb-true, or_from, or_parts}
use Rattle.std.proofs.lemmas.Grind.{flat_map-append}
use Rattle.std.proofs.lemmas.List.Folds.{list_all-append, list_any-append}
use Rattle.conf_lex.specs.declared.token.Token.{Token}
use Rattle.conf_lex.specs.declared.token.RawRule.{RawRule}
use Rattle.conf_lex.specs.Piece.{Piece, white, newline, piece_bytes, piece_tokens, spelling, tokens_of, is_newline, is_open, may_precede, all_may_precede, goes_on, join_after_backslash, IsReading}
use Rattle.conf_lex.specs.Reading.{pieces_of}
use Rattle.conf_lex.specs.Rules.{newlines, lines_of_pieces, numbered, line_rules, line_fault, first_fault}
use Rattle.conf_lex.specs.Lexing.{nul_line, answer_at}
use Rattle.conf_lex.specs.Answer.{answer_to}
use Rattle.service_print.specs.Tokens.{after_space, spaced, escaped_byte, in_brackets, ends_in, ended, text_of}
use Rattle.service_print.proofs.Spelled.{last_is, ends_in-last, is_inner, is_plain, is_sound, is_plain_text, is_inner_text, plain_parts, written, fields_text, field_pieces, after_pieces, field_pieces-bytes, field_pieces-tokens, after_pieces-within, after_pieces-closed, fields_stand, piece_of, piece_of-within, piece_of-closed}

-- ---- every byte of a line

escaped_all : (test : ℕ → Bool) (text : List ℕ) → test 92 ≡ true → test 93 ≡ true → list_all test text ≡ true
    → list_all test (flat_map escaped_byte text) ≡ true
escaped_all test [] backslash closing all = refl
escaped_all test (b ∷ bs) backslash closing all =
    let parts = and_parts (test b) (list_all test bs) all in
    let more = escaped_all test bs backslash closing parts.1 in
    elim (cases_Bool (eqb b 93)) [ inl y ↦ rw (y, backslash, closing) more | inr n ↦ rw (n, parts.0) more ]

brackets_all : (test : ℕ → Bool) (text : List ℕ) → test 91 ≡ true → test 92 ≡ true → test 93 ≡ true → list_all test text ≡ true
    → list_all test (in_brackets text) ≡ true
brackets_all test text opening backslash closing all =
    and_from (test 91) (list_all test (flat_map escaped_byte text ++ 93 ∷ [])) opening
    (list_all-append test (flat_map escaped_byte text) (93 ∷ []) ∙ and_from (list_all test (flat_map escaped_byte text)) (test 93 && true) (escaped_all test text backslash closing all) (and_from (test 93) true closing refl))

-- the bytes of a line that aren't those of its tokens pass a test
pub record Passes (test : ℕ → Bool) : Type 0 where
  pub opening : test 91 ≡ true
  pub backslash : test 92 ≡ true
  pub closing : test 93 ≡ true
  pub space : test 32 ≡ true

choice_all : (test : ℕ → Bool) → Passes test → (bracketed : Bool) (text : List ℕ) → list_all test text ≡ true
    → list_all test (cond bracketed (in_brackets text) text) ≡ true
choice_all test passes true text all = brackets_all test text passes.opening passes.backslash passes.closing all
choice_all test passes false text all = all

abbrev pub all_bytes : (ℕ → Bool) → Token → Bool
all_bytes test token = list_all test token.text

past_all : (test : ℕ → Bool) → Passes test → (tokens : List Token) → list_all (all_bytes test) tokens ≡ true
    → list_all test (flat_map after_space (map written tokens)) ≡ true
past_all test passes [] all = refl
past_all test passes (token ∷ tokens) all =
    let parts = and_parts (all_bytes test token) (list_all (all_bytes test) tokens) all in
    and_from (test 32) (list_all test (written token ++ flat_map after_space (map written tokens))) passes.space
    (list_all-append test (written token) (flat_map after_space (map written tokens)) ∙ and_from (list_all test (written token)) (list_all test (flat_map after_space (map written tokens))) (choice_all test passes token.bracketed token.text parts.0) (past_all test passes tokens parts.1))

fields_all : (test : ℕ → Bool) → Passes test → (token : Token) (tokens : List Token) → list_all (all_bytes test) (token ∷ tokens) ≡ true
    → list_all test (fields_text token tokens) ≡ true
fields_all test passes token tokens all =
    let parts = and_parts (all_bytes test token) (list_all (all_bytes test) tokens) all in
    list_all-append test (written token) (flat_map after_space (map written tokens))
    ∙ and_from (list_all test (written token)) (list_all test (flat_map after_space (map written tokens))) (choice_all test passes token.bracketed token.text parts.0) (past_all test passes tokens parts.1)

-- ---- lines

-- the tokens of a line
pub record Fields : Type 0 where
  pub first : Token
  pub more : List Token

abbrev pub tokens_in : Fields → List Token
tokens_in fields = fields.first ∷ fields.more

abbrev pub line_text : Fields → List ℕ
line_text fields = fields_text fields.first fields.more

-- a space at the end of a line, if it has one
abbrev pub last_space : List ℕ → List ℕ
last_space line = cond (ends_in 92 line) (32 ∷ []) []

-- a line as it is written, without its newline
abbrev pub closed_line : Fields → List ℕ
closed_line fields = line_text fields ++ last_space (line_text fields)

abbrev space_piece : Bool → List Piece
space_piece spaced = cond spaced (white 32 ∷ []) []

abbrev body_pieces : Fields → List Piece
body_pieces fields = field_pieces fields.first fields.more ++ space_piece (ends_in 92 (line_text fields))

pub ended-closed : (line : List ℕ) → ended line ≡ (line ++ last_space line) ++ 10 ∷ []
unfolding ended
ended-closed line =
    elim (cases_Bool (ends_in 92 line)) [
      | inl y ↦ rw (y, append_assoc line (32 ∷ []) (10 ∷ [])) refl
      | inr n ↦ rw (n, append-nil line) refl
    ]

space_piece-bytes : (spaced : Bool) → spelling (space_piece spaced) ≡ cond spaced (32 ∷ []) []
space_piece-bytes true = refl
space_piece-bytes false = refl

body_pieces-bytes : (fields : Fields) → spelling (body_pieces fields) ≡ closed_line fields
body_pieces-bytes fields =
    flat_map-append piece_bytes (field_pieces fields.first fields.more) (space_piece (ends_in 92 (line_text fields)))
    ∙ rw (field_pieces-bytes fields.first fields.more, space_piece-bytes (ends_in 92 (line_text fields))) refl

space_piece-tokens : (spaced : Bool) → tokens_of (space_piece spaced) ≡ []
space_piece-tokens true = refl
space_piece-tokens false = refl

body_pieces-tokens : (fields : Fields) → tokens_of (body_pieces fields) ≡ tokens_in fields
body_pieces-tokens fields =
    flat_map-append piece_tokens (field_pieces fields.first fields.more) (space_piece (ends_in 92 (line_text fields)))
    ∙ rw (field_pieces-tokens fields.first fields.more, space_piece-tokens (ends_in 92 (line_text fields))) (append-nil (tokens_in fields))

space_piece-within : (spaced : Bool) → list_any is_newline (space_piece spaced) ≡ false
space_piece-within true = refl
space_piece-within false = refl

space_piece-closed : (spaced : Bool) → list_any is_open (space_piece spaced) ≡ false
space_piece-closed true = refl
space_piece-closed false = refl

body_pieces-within : (fields : Fields) → list_any is_newline (body_pieces fields) ≡ false
body_pieces-within fields =
    list_any-append is_newline (field_pieces fields.first fields.more) (space_piece (ends_in 92 (line_text fields)))
    ∙ or_from (list_any is_newline (field_pieces fields.first fields.more)) (list_any is_newline (space_piece (ends_in 92 (line_text fields))))
    (or_from (is_newline (piece_of fields.first)) (list_any is_newline (after_pieces fields.more)) (piece_of-within fields.first) (after_pieces-within fields.more))
    (space_piece-within (ends_in 92 (line_text fields)))

body_pieces-closed : (fields : Fields) → list_any is_open (body_pieces fields) ≡ false
body_pieces-closed fields =
    list_any-append is_open (field_pieces fields.first fields.more) (space_piece (ends_in 92 (line_text fields)))
    ∙ or_from (list_any is_open (field_pieces fields.first fields.more)) (list_any is_open (space_piece (ends_in 92 (line_text fields))))
    (or_from (is_open (piece_of fields.first)) (list_any is_open (after_pieces fields.more)) (piece_of-closed fields.first) (after_pieces-closed fields.more))
    (space_piece-closed (ends_in 92 (line_text fields)))

-- ---- pieces that are whole

stand-append : (ps qs : List Piece) (rest : List ℕ) → all_may_precede ps (spelling qs ++ rest) ≡ true → all_may_precede qs rest ≡ true → all_may_precede (ps ++ qs) rest ≡ true
stand-append [] qs rest one other = other
stand-append (p ∷ ps) qs rest one other =
    let parts = and_parts (may_precede p (spelling ps ++ (spelling qs ++ rest))) (all_may_precede ps (spelling qs ++ rest)) one in
    let same : spelling (ps ++ qs) ++ rest ≡ spelling ps ++ (spelling qs ++ rest) = ap (λ (t : List ℕ). t ++ rest) (flat_map-append piece_bytes ps qs) ∙ append_assoc (spelling ps) (spelling qs) rest in
    and_from (may_precede p (spelling (ps ++ qs) ++ rest)) (all_may_precede (ps ++ qs) rest) (ap (may_precede p) same ∙ parts.0) (stand-append ps qs rest parts.1 other)

-- whether the tokens of a line read back as they are written
abbrev pub is_sound_line : Fields → Bool
is_sound_line fields = is_sound fields.first && list_all is_sound fields.more

abbrev end_pieces : Bool → List Piece
end_pieces spaced = space_piece spaced ++ newline ∷ []

end_adds_its_event : (spaced : Bool) (rest : List ℕ) → all_may_precede (end_pieces spaced) rest ≡ true
end_adds_its_event true rest = refl
end_adds_its_event false rest = refl

end_ends : (spaced : Bool) (rest : List ℕ) → goes_on (spelling (end_pieces spaced) ++ rest) ≡ false
end_ends true rest = refl
end_ends false rest = refl

end_apart : (spaced : Bool) (rest : List ℕ) → spaced ≡ true → join_after_backslash (spelling (end_pieces spaced) ++ rest) ≡ None
end_apart true rest is = refl
end_apart false rest is = absurd cc

line_stands : (fields : Fields) (rest : List ℕ) → is_sound_line fields ≡ true → all_may_precede (body_pieces fields ++ newline ∷ []) rest ≡ true
line_stands fields rest sound =
    let parts = and_parts (is_sound fields.first) (list_all is_sound fields.more) sound in
    let spaced = ends_in 92 (line_text fields) in
    let whole = stand-append (field_pieces fields.first fields.more) (end_pieces spaced) rest
    (fields_stand fields.first fields.more (spelling (end_pieces spaced) ++ rest) parts.0 parts.1 (end_ends spaced rest) (λ y. end_apart spaced rest (ends_in-last (line_text fields) ∙ y)))
    (end_adds_its_event spaced rest)
    in
    ap (λ (ps : List Piece). all_may_precede ps rest) (append_assoc (field_pieces fields.first fields.more) (space_piece spaced) (newline ∷ [])) ∙ whole

-- ---- texts

abbrev text_pieces : List Fields → List Piece
text_pieces lines = flat_map (λ fields. body_pieces fields ++ newline ∷ []) lines

-- the text of some lines
abbrev pub lines_text : List Fields → List ℕ
lines_text lines = text_of (map line_text lines)

text_spelled : (lines : List Fields) → lines_text lines ≡ spelling (text_pieces lines)
text_spelled [] = refl
text_spelled (fields ∷ lines) =
    let here : ended (line_text fields) ≡ spelling (body_pieces fields ++ newline ∷ []) =
    ended-closed (line_text fields) ∙ ap (λ (t : List ℕ). t ++ 10 ∷ []) (sym (body_pieces-bytes fields)) ∙ sym (flat_map-append piece_bytes (body_pieces fields) (newline ∷ [])) in
    rw (here, text_spelled lines) (sym (flat_map-append piece_bytes (body_pieces fields ++ newline ∷ []) (text_pieces lines)))

text_stands : (lines : List Fields) → list_all is_sound_line lines ≡ true → all_may_precede (text_pieces lines) [] ≡ true
text_stands [] sound = refl
text_stands (fields ∷ lines) sound =
    let parts = and_parts (is_sound_line fields) (list_all is_sound_line lines) sound in
    stand-append (body_pieces fields ++ newline ∷ []) (text_pieces lines) [] (line_stands fields (spelling (text_pieces lines) ++ []) parts.0) (text_stands lines parts.1)

text_reading : (lines : List Fields) → list_all is_sound_line lines ≡ true → IsReading (lines_text lines) (text_pieces lines)
text_reading lines sound = record { spelled = text_spelled lines ∙ sym (append-nil (spelling (text_pieces lines))); stand = text_stands lines sound }

-- ---- the rules of a text

lines_body : (body more : List Piece) → list_any is_newline body ≡ false → lines_of_pieces (body ++ newline ∷ more) ≡ body ∷ lines_of_pieces more
lines_body [] more within = refl
lines_body (p ∷ ps) more within =
    let parts = or_parts (is_newline p) (list_any is_newline ps) within in
    rw (parts.0, lines_body ps more parts.1) refl

text_lines : (lines : List Fields) → lines_of_pieces (text_pieces lines) ≡ map body_pieces lines ++ [] ∷ []
text_lines [] = refl
text_lines (fields ∷ lines) =
    ap lines_of_pieces (append_assoc (body_pieces fields) (newline ∷ []) (text_pieces lines))
    ∙ lines_body (body_pieces fields) (text_pieces lines) (body_pieces-within fields)
    ∙ ap (λ (ls : List (List Piece)). body_pieces fields ∷ ls) (text_lines lines)

no_newlines : (text : List ℕ) → list_all is_inner text ≡ true → newlines text ≡ 0
no_newlines [] all = refl
no_newlines (b ∷ bs) all =
    let parts = and_parts (is_inner b) (list_all is_inner bs) all in
    rw (not-true (eqb b 10) parts.0, no_newlines bs parts.1) refl

-- a token that reads back has no newline
plain_inner : (text : List ℕ) → list_all is_plain text ≡ true → list_all is_inner text ≡ true
plain_inner [] all = refl
plain_inner (b ∷ bs) all =
    let parts = and_parts (is_plain b) (list_all is_plain bs) all in
    and_from (is_inner b) (list_all is_inner bs) (not_from_false (eqb b 10) (plain_parts b parts.0).no_newline) (plain_inner bs parts.1)

some_plain_inner : (text : List ℕ) → is_plain_text text ≡ true → list_all is_inner text ≡ true
some_plain_inner [] is = refl
some_plain_inner (b ∷ bs) is = plain_inner (b ∷ bs) (and_parts (not (eqb b 91)) (list_all is_plain (b ∷ bs)) is).1

sound_inner : (bracketed : Bool) (text : List ℕ) → cond bracketed (is_inner_text text) (is_plain_text text) ≡ true → list_all is_inner text ≡ true
sound_inner true text is = (and_parts (list_all is_inner text) (not (last_is 92 text)) is).0
sound_inner false text is = some_plain_inner text is

pub all_sound_inner : (tokens : List Token) → list_all is_sound tokens ≡ true → list_all (all_bytes is_inner) tokens ≡ true
all_sound_inner [] sound = refl
all_sound_inner (token ∷ tokens) sound =
    let parts = and_parts (is_sound token) (list_all is_sound tokens) sound in
    and_from (all_bytes is_inner token) (list_all (all_bytes is_inner) tokens) (sound_inner token.bracketed token.text parts.0) (all_sound_inner tokens parts.1)

last_space_all : (test : ℕ → Bool) → test 32 ≡ true → (spaced : Bool) → list_all test (cond spaced (32 ∷ []) []) ≡ true
last_space_all test space true = and_from (test 32) true space refl
last_space_all test space false = refl

pub closed_all : (test : ℕ → Bool) → Passes test → (fields : Fields) → list_all (all_bytes test) (tokens_in fields) ≡ true
    → list_all test (closed_line fields) ≡ true
closed_all test passes fields all =
    list_all-append test (line_text fields) (last_space (line_text fields))
    ∙ and_from (list_all test (line_text fields)) (list_all test (last_space (line_text fields))) (fields_all test passes fields.first fields.more all) (last_space_all test passes.space (ends_in 92 (line_text fields)))

pub inner_passes : Passes is_inner
inner_passes = record { opening = refl; backslash = refl; closing = refl; space = refl }

line_newlines : (fields : Fields) → is_sound_line fields ≡ true → newlines (spelling (body_pieces fields)) ≡ 0
line_newlines fields sound = ap newlines (body_pieces-bytes fields) ∙ no_newlines (closed_line fields) (closed_all is_inner inner_passes fields (all_sound_inner (tokens_in fields) sound))

-- the rules of some lines, the first of which has this number
abbrev pub raw_rules : ℕ → List Fields → List RawRule
raw_rules number [] = []
raw_rules number (fields ∷ lines) = record { line = number; tokens = tokens_in fields } ∷ raw_rules (number + 1) lines

abbrev pub is_short_line : Fields → Bool
is_short_line fields = nat_le (length (closed_line fields)) 4096

numbered_next : (number : ℕ) (fields : Fields) (rest : List (List Piece)) → is_sound_line fields ≡ true
    → numbered number (body_pieces fields ∷ rest) ≡ record { first = number; pieces = body_pieces fields } ∷ numbered (number + 1) rest
numbered_next number fields rest sound =
    let next : number + newlines (spelling (body_pieces fields)) + 1 ≡ number + 1 = ap (λ (n : ℕ). number + n + 1) (line_newlines fields sound) ∙ ap (λ (n : ℕ). n + 1) (add-zero number) in
    ap (λ (n : ℕ). record { first = number; pieces = body_pieces fields } ∷ numbered n rest) next

line_fine : (number : ℕ) (fields : Fields) → is_short_line fields ≡ true → line_fault (record { first = number; pieces = body_pieces fields }) ≡ None
line_fine number fields short =
    let few : length (spelling (body_pieces fields)) ≤ 4096 = omega (arith, ap length (body_pieces-bytes fields), leb-true (length (closed_line fields)) 4096 short) in
    rw (le-ltb 4096 (length (spelling (body_pieces fields))) few, body_pieces-closed fields) refl

none_fault : (number : ℕ) (lines : List Fields) → list_all is_sound_line lines ≡ true → list_all is_short_line lines ≡ true
    → first_fault (numbered number (map body_pieces lines ++ [] ∷ [])) ≡ None
none_fault number [] sound short = refl
none_fault number (fields ∷ lines) sound short =
    let sounds = and_parts (is_sound_line fields) (list_all is_sound_line lines) sound in
    let shorts = and_parts (is_short_line fields) (list_all is_short_line lines) short in
    ap first_fault (numbered_next number fields (map body_pieces lines ++ [] ∷ []) sounds.0)
    ∙ rw (line_fine number fields shorts.0) (none_fault (number + 1) lines sounds.1 shorts.1)

all_rules : (number : ℕ) (lines : List Fields) → list_all is_sound_line lines ≡ true
    → flat_map line_rules (numbered number (map body_pieces lines ++ [] ∷ [])) ≡ raw_rules number lines
all_rules number [] sound = refl
all_rules number (fields ∷ lines) sound =
    let sounds = and_parts (is_sound_line fields) (list_all is_sound_line lines) sound in
    ap (flat_map line_rules) (numbered_next number fields (map body_pieces lines ++ [] ∷ []) sounds.0)
    ∙ rw (body_pieces-tokens fields, all_rules (number + 1) lines sounds.1) refl

abbrev pub OneReading : Type 0
OneReading = (text : List ℕ) (pieces : List Piece) → IsReading text pieces → pieces ≡ pieces_of text

lines_answer : OneReading → (lines : List Fields) → list_all is_sound_line lines ≡ true → list_all is_short_line lines ≡ true
    → answer_at 1 (lines_text lines) ≡ Ok (raw_rules 1 lines)
unfolding answer_at
lines_answer only lines sound short =
    rw (← only (lines_text lines) (text_pieces lines) (text_reading lines sound), text_lines lines, none_fault 1 lines sound short, all_rules 1 lines sound) refl

-- a byte that isn't NUL
abbrev pub is_set : ℕ → Bool
is_set b = not (eqb b 0)

no_nul : (number : ℕ) (text : List ℕ) → list_all is_set text ≡ true → nul_line number text ≡ None
no_nul number [] all = refl
no_nul number (b ∷ bs) all =
    let parts = and_parts (is_set b) (list_all is_set bs) all in
    rw (not-true (eqb b 0) parts.0) (no_nul (number + newlines (b ∷ [])) bs parts.1)

set_passes : Passes is_set
set_passes = record { opening = refl; backslash = refl; closing = refl; space = refl }

abbrev pub is_set_line : Fields → Bool
is_set_line fields = list_all (all_bytes is_set) (tokens_in fields)

text_set : (lines : List Fields) → list_all is_set_line lines ≡ true → list_all is_set (lines_text lines) ≡ true
text_set [] all = refl
text_set (fields ∷ lines) all =
    let parts = and_parts (is_set_line fields) (list_all is_set_line lines) all in
    let here : list_all is_set (ended (line_text fields)) ≡ true =
    ap (list_all is_set) (ended-closed (line_text fields)) ∙ list_all-append is_set (closed_line fields) (10 ∷ [])
    ∙ and_from (list_all is_set (closed_line fields)) true (closed_all is_set set_passes fields parts.0) refl in
    list_all-append is_set (ended (line_text fields)) (lines_text lines) ∙ and_from (list_all is_set (ended (line_text fields))) (list_all is_set (lines_text lines)) here (text_set lines parts.1)

-- the rules of a printed text
pub text_answer : OneReading → (lines : List Fields) → list_all is_sound_line lines ≡ true → list_all is_set_line lines ≡ true
    → list_all is_short_line lines ≡ true → length (lines_text lines) ≤ 65536
    → answer_to (lines_text lines) ≡ Ok (raw_rules 1 lines)
unfolding answer_to
text_answer only lines sound set short few =
    rw (le-ltb 65536 (length (lines_text lines)) few, no_nul 1 (lines_text lines) (text_set lines set)) (lines_answer only lines sound short)
