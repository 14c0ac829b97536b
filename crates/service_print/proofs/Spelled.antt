-- Tokens as they are written: each is one piece of the written text.
use Rattle.std.proofs.Common.{◌≡◌, ℕ, ◌-◌, Bool, true, false, not, ◌||◌, ◌&&◌, cond, eqb, List, [], ◌∷◌, ◌++◌, length, map, Some, None, refl, sym, ap, ◌∙◌, arith, append-nil, inl, inr}
use Rattle.std.specs.List.{flat_map, list_all, list_any}
use Rattle.std.proofs.lemmas.Bool.{cases_Bool, not_from_false, cond-false, false≢true, both_ways, not-true, or_parts, and_parts, and_from, eqb-true}
use Rattle.pam_base.specs.White.{is_white}
use Rattle.conf_lex.specs.declared.token.Token.{Token}
use Rattle.conf_lex.specs.Piece.{return_feed, BracketUnit, escaped, single, unit_bytes, unit_text, unit_may_precede, units_bytes, units_text, units_may_precede, Piece, plain, bracket, white, piece_bytes, piece_tokens, spelling, tokens_of, begins_with, join_after_backslash, begins_join, is_single, goes_on, all_go_on, may_precede, all_may_precede, is_newline, is_open}
use Rattle.service_print.specs.Tokens.{after_space, spaced, escaped_byte, in_brackets, ends_in}

-- ---- the last byte

abbrev pub last_is : ℕ → List ℕ → Bool
last_is a [] = false
last_is a (b ∷ []) = eqb b a
last_is a (b ∷ c ∷ bs) = last_is a (c ∷ bs)

ends_in-cons : (b c : ℕ) (bs : List ℕ) → ends_in 92 (b ∷ c ∷ bs) ≡ ends_in 92 (c ∷ bs)
ends_in-cons b c bs =
    let here : length (b ∷ c ∷ bs) - 1 ≡ length (c ∷ bs) = omega arith in
    let there : length (c ∷ bs) - 1 ≡ length bs = omega arith in
    rw (here, there) refl

pub ends_in-last : (text : List ℕ) → ends_in 92 text ≡ last_is 92 text
ends_in-last [] = refl
ends_in-last (b ∷ []) = refl
ends_in-last (b ∷ c ∷ bs) = ends_in-cons b c bs ∙ ends_in-last (c ∷ bs)

pub last_is-append : (a b : ℕ) (front back : List ℕ) → last_is a (front ++ b ∷ back) ≡ last_is a (b ∷ back)
last_is-append a b [] back = refl
last_is-append a b (c ∷ []) back = refl
last_is-append a b (c ∷ d ∷ front) back = last_is-append a b (d ∷ front) back

-- ---- bytes

-- a byte of a token without brackets, at any position in it
abbrev pub is_plain : ℕ → Bool
is_plain b = not (is_white b || eqb b 35 || eqb b 10)

-- a byte of a token in brackets
abbrev pub is_inner : ℕ → Bool
is_inner b = not (eqb b 10)

pub record PlainParts (b : ℕ) : Type 0 where
  pub no_white : is_white b ≡ false
  pub no_hash : eqb b 35 ≡ false
  pub no_newline : eqb b 10 ≡ false
  pub no_return : eqb b 13 ≡ false

pub plain_parts : (b : ℕ) → is_plain b ≡ true → PlainParts b
plain_parts b is =
    let all = or_parts (is_white b || eqb b 35) (eqb b 10) (not-true (is_white b || eqb b 35 || eqb b 10) is) in
    let some = or_parts (is_white b) (eqb b 35) all.0 in
    record {
      no_white = some.0;
      no_hash = some.1;
      no_newline = all.1;
      no_return = (or_parts (eqb b 32 || eqb b 9) (eqb b 13) some.0).1;
    }

-- ---- joins

no_join : (b : ℕ) (more : List ℕ) → join_after_backslash more ≡ None → begins_join (b ∷ more) ≡ false
no_join b more none = elim (cases_Bool (eqb b 92)) [ inl y ↦ rw (y, none) refl | inr n ↦ rw n refl ]

not_backslash : (b : ℕ) (more : List ℕ) → eqb b 92 ≡ false → begins_join (b ∷ more) ≡ false
not_backslash b more n = rw n refl

after_other : (c : ℕ) (cs : List ℕ) → eqb c 10 ≡ false → eqb c 13 ≡ false → join_after_backslash (c ∷ cs) ≡ None
after_other c cs no_newline no_return = rw (no_newline, no_return) refl

-- ---- tokens without brackets

goes_on_by : (b : ℕ) (more : List ℕ) → is_plain b ≡ true → begins_join (b ∷ more) ≡ false → goes_on (b ∷ more) ≡ true
goes_on_by b more is none =
    let parts = plain_parts b is in
    rw (parts.no_white, parts.no_hash, parts.no_newline, none) refl

run_stands : (text rest : List ℕ) → list_all is_plain text ≡ true → (last_is 92 text ≡ true → join_after_backslash rest ≡ None) → all_go_on text rest ≡ true
run_stands [] rest is last = refl
run_stands (b ∷ []) rest is last =
    let here = (and_parts (is_plain b) true is).0 in
    let none : begins_join (b ∷ rest) ≡ false = elim (cases_Bool (eqb b 92)) [ inl y ↦ no_join b rest (last y) | inr n ↦ not_backslash b rest n ] in
    and_from (goes_on (b ∷ rest)) true (goes_on_by b rest here none) refl
run_stands (b ∷ c ∷ cs) rest is last =
    let parts = and_parts (is_plain b) (list_all is_plain (c ∷ cs)) is in
    let next = plain_parts c (and_parts (is_plain c) (list_all is_plain cs) parts.1).0 in
    let none = no_join b (c ∷ (cs ++ rest)) (after_other c (cs ++ rest) next.no_newline next.no_return) in
    and_from (goes_on (b ∷ (c ∷ cs) ++ rest)) (all_go_on (c ∷ cs) rest) (goes_on_by b (c ∷ (cs ++ rest)) parts.0 none) (run_stands (c ∷ cs) rest parts.1 last)

-- ---- tokens in brackets

and_none : (a : Bool) → cond (a && false) (Some return_feed) None ≡ None
and_none true = refl
and_none false = refl

abbrev pub unit_of : ℕ → BracketUnit
unit_of b = cond (eqb b 93) escaped (single b)

abbrev pub units_of : List ℕ → List BracketUnit
units_of text = map unit_of text

unit_of-bytes : (b : ℕ) → unit_bytes (unit_of b) ≡ escaped_byte b
unit_of-bytes b = elim (cases_Bool (eqb b 93)) [ inl y ↦ rw y refl | inr n ↦ rw n refl ]

unit_of-text : (b : ℕ) → unit_text (unit_of b) ≡ b ∷ []
unit_of-text b = elim (cases_Bool (eqb b 93)) [ inl y ↦ rw y (ap (λ (x : ℕ). x ∷ []) (sym (eqb-true b 93 y))) | inr n ↦ rw n refl ]

units_of-bytes : (text : List ℕ) → units_bytes (units_of text) ≡ flat_map escaped_byte text
units_of-bytes [] = refl
units_of-bytes (b ∷ bs) = rw (unit_of-bytes b, units_of-bytes bs) refl

units_of-text : (text : List ℕ) → units_text (units_of text) ≡ text
units_of-text [] = refl
units_of-text (b ∷ bs) = rw (unit_of-text b, units_of-text bs) refl

-- what follows a byte in brackets doesn't begin with a newline
no_newline_next : (text rest : List ℕ) → list_all is_inner text ≡ true → begins_with 10 (units_bytes (units_of text) ++ 93 ∷ rest) ≡ false
no_newline_next [] rest is = refl
no_newline_next (b ∷ bs) rest is =
    let here = not-true (eqb b 10) (and_parts (is_inner b) (list_all is_inner bs) is).0 in
    elim (cases_Bool (eqb b 93)) [ inl y ↦ rw y refl | inr n ↦ rw n here ]

-- a byte in brackets means itself before these
pub record IsNext (more : List ℕ) : Type 0 where
  pub unescaped : begins_with 93 more ≡ false
  pub unjoined : join_after_backslash more ≡ None

next_inside : (c : ℕ) (cs rest : List ℕ) → list_all is_inner (c ∷ cs) ≡ true → IsNext (units_bytes (units_of (c ∷ cs)) ++ 93 ∷ rest)
next_inside c cs rest is =
    let parts = and_parts (is_inner c) (list_all is_inner cs) is in
    let here = not-true (eqb c 10) parts.0 in
    elim (cases_Bool (eqb c 93)) [
      | inl y ↦ rw y (record { unescaped = refl; unjoined = refl })
      | inr n ↦ rw n (record { unescaped = n; unjoined = rw (here, no_newline_next cs rest parts.1) (and_none (eqb c 13)) })
    ]

single_by : (b : ℕ) (more : List ℕ) → eqb b 93 ≡ false → eqb b 10 ≡ false → (eqb b 92 ≡ true → IsNext more) → is_single (b ∷ more) ≡ true
single_by b more no_bracket no_newline next =
    elim (cases_Bool (eqb b 92)) [
      | inl y ↦ rw (no_bracket, no_newline, y, (next y).unescaped, (next y).unjoined) refl
      | inr m ↦ rw (no_bracket, no_newline, m) refl
    ]

unit_stands_by : (b : ℕ) (more : List ℕ) → is_inner b ≡ true → (eqb b 92 ≡ true → IsNext more) → unit_may_precede (unit_of b) more ≡ true
unit_stands_by b more is next =
    elim (cases_Bool (eqb b 93)) [ inl y ↦ rw y refl | inr n ↦ ap (λ (u : BracketUnit). unit_may_precede u more) (cond-false (eqb b 93) escaped (single b) n) ∙ single_by b more n (not-true (eqb b 10) is) next ]

units_of-stand : (text rest : List ℕ) → list_all is_inner text ≡ true → last_is 92 text ≡ false → units_may_precede (units_of text) (93 ∷ rest) ≡ true
units_of-stand [] rest is last = refl
units_of-stand (b ∷ []) rest is last =
    and_from (unit_may_precede (unit_of b) (93 ∷ rest)) true (unit_stands_by b (93 ∷ rest) (and_parts (is_inner b) true is).0 (λ y. absurd (both_ways (eqb b 92) last y))) refl
units_of-stand (b ∷ c ∷ cs) rest is last =
    let parts = and_parts (is_inner b) (list_all is_inner (c ∷ cs)) is in
    and_from (unit_may_precede (unit_of b) (units_bytes (units_of (c ∷ cs)) ++ 93 ∷ rest)) (units_may_precede (units_of (c ∷ cs)) (93 ∷ rest))
    (unit_stands_by b (units_bytes (units_of (c ∷ cs)) ++ 93 ∷ rest) parts.0 (λ y. next_inside c cs rest parts.1))
    (units_of-stand (c ∷ cs) rest parts.1 last)

-- ---- tokens

-- a token as it is written
abbrev pub written : Token → List ℕ
written token = cond token.bracketed (in_brackets token.text) token.text

abbrev pub is_plain_text : List ℕ → Bool
is_plain_text [] = false
is_plain_text (b ∷ bs) = not (eqb b 91) && list_all is_plain (b ∷ bs)

abbrev pub is_inner_text : List ℕ → Bool
is_inner_text text = list_all is_inner text && not (last_is 92 text)

-- whether it reads back as it is written
abbrev pub is_sound : Token → Bool
is_sound token = cond token.bracketed (is_inner_text token.text) (is_plain_text token.text)

abbrev pub piece_of : Token → Piece
piece_of token = cond token.bracketed (bracket (units_of token.text)) (plain token.text)

piece_of-bytes : (token : Token) → piece_bytes (piece_of token) ≡ written token
piece_of-bytes token =
    elim (cases_Bool token.bracketed) [
      | inl y ↦ rw y (ap (λ (t : List ℕ). 91 ∷ (t ++ 93 ∷ [])) (units_of-bytes token.text))
      | inr n ↦ rw n refl
    ]

piece_of-tokens : (token : Token) → piece_tokens (piece_of token) ≡ token ∷ []
piece_of-tokens token = elim token.bracketed as (λ (b : Bool). token.bracketed ≡ b → piece_tokens (cond b (bracket (units_of token.text)) (plain token.text)) ≡ token ∷ []) [
  | true ↦ λ is. rw (← is) (ap (λ (t : List ℕ). record { bracketed = token.bracketed; text = t } ∷ []) (units_of-text token.text))
  | false ↦ λ is. rw (← is) refl
] refl

pub piece_of-within : (token : Token) → is_newline (piece_of token) ≡ false
piece_of-within token = elim token.bracketed as (λ (b : Bool). is_newline (cond b (bracket (units_of token.text)) (plain token.text)) ≡ false) [ true ↦ refl | false ↦ refl ]

pub piece_of-closed : (token : Token) → is_open (piece_of token) ≡ false
piece_of-closed token = elim token.bracketed as (λ (b : Bool). is_open (cond b (bracket (units_of token.text)) (plain token.text)) ≡ false) [ true ↦ refl | false ↦ refl ]

plain_stands : (text rest : List ℕ) → is_plain_text text ≡ true → goes_on rest ≡ false → (last_is 92 text ≡ true → join_after_backslash rest ≡ None)
    → may_precede (plain text) rest ≡ true
plain_stands [] rest is ends last = absurd (false≢true is)
plain_stands (b ∷ bs) rest is ends last =
    let parts = and_parts (not (eqb b 91)) (list_all is_plain (b ∷ bs)) is in
    let here = plain_parts b (and_parts (is_plain b) (list_all is_plain bs) parts.1).0 in
    let first : (not (eqb b 10) && not (eqb b 91)) ≡ true = rw (here.no_newline, not-true (eqb b 91) parts.0) refl in
    and_from (not (eqb b 10) && not (eqb b 91) && all_go_on (b ∷ bs) rest) (not (goes_on rest))
    (and_from (not (eqb b 10) && not (eqb b 91)) (all_go_on (b ∷ bs) rest) first (run_stands (b ∷ bs) rest parts.1 last))
    (not_from_false (goes_on rest) ends)

-- a token comes before its terminator and joins no backslash of its own
piece_stands : (bracketed : Bool) (text rest : List ℕ) → cond bracketed (is_inner_text text) (is_plain_text text) ≡ true → goes_on rest ≡ false
    → (last_is 92 (cond bracketed (in_brackets text) text) ≡ true → join_after_backslash rest ≡ None) → may_precede (cond bracketed (bracket (units_of text)) (plain text)) rest ≡ true
piece_stands true text rest is ends last =
    let parts = and_parts (list_all is_inner text) (not (last_is 92 text)) is in
    units_of-stand text rest parts.0 (not-true (last_is 92 text) parts.1)
piece_stands false text rest is ends last = plain_stands text rest is ends last

piece_of-may_precede : (token : Token) (rest : List ℕ) → is_sound token ≡ true → goes_on rest ≡ false
    → (last_is 92 (written token) ≡ true → join_after_backslash rest ≡ None) → may_precede (piece_of token) rest ≡ true
piece_of-may_precede token rest = piece_stands token.bracketed token.text rest

-- ---- lines

-- the pieces of tokens after others
abbrev pub after_pieces : List Token → List Piece
after_pieces [] = []
after_pieces (token ∷ tokens) = white 32 ∷ piece_of token ∷ after_pieces tokens

abbrev pub field_pieces : Token → List Token → List Piece
field_pieces token tokens = piece_of token ∷ after_pieces tokens

-- the fields of a line as they are written
abbrev pub fields_text : Token → List Token → List ℕ
fields_text token tokens = spaced (map written (token ∷ tokens))

after_pieces-bytes : (tokens : List Token) → spelling (after_pieces tokens) ≡ flat_map after_space (map written tokens)
after_pieces-bytes [] = refl
after_pieces-bytes (token ∷ tokens) = rw (piece_of-bytes token, after_pieces-bytes tokens) refl

pub field_pieces-bytes : (token : Token) (tokens : List Token) → spelling (field_pieces token tokens) ≡ fields_text token tokens
field_pieces-bytes token tokens = rw (piece_of-bytes token, after_pieces-bytes tokens) refl

after_pieces-tokens : (tokens : List Token) → tokens_of (after_pieces tokens) ≡ tokens
after_pieces-tokens [] = refl
after_pieces-tokens (token ∷ tokens) = rw (piece_of-tokens token, after_pieces-tokens tokens) refl

pub field_pieces-tokens : (token : Token) (tokens : List Token) → tokens_of (field_pieces token tokens) ≡ token ∷ tokens
field_pieces-tokens token tokens = rw (piece_of-tokens token, after_pieces-tokens tokens) refl

pub after_pieces-within : (tokens : List Token) → list_any is_newline (after_pieces tokens) ≡ false
after_pieces-within [] = refl
after_pieces-within (token ∷ tokens) = rw (piece_of-within token) (after_pieces-within tokens)

pub after_pieces-closed : (tokens : List Token) → list_any is_open (after_pieces tokens) ≡ false
after_pieces-closed [] = refl
after_pieces-closed (token ∷ tokens) = rw (piece_of-closed token) (after_pieces-closed tokens)

-- the written form of a token isn't empty
pub record IsSome (text : List ℕ) : Type 0 where
  pub first : ℕ
  pub more : List ℕ
  pub is : text ≡ first ∷ more

some_plain : (text : List ℕ) → is_plain_text text ≡ true → IsSome text
some_plain [] is = absurd (false≢true is)
some_plain (b ∷ bs) is = record { first = b; more = bs; is = refl }

some_written : (bracketed : Bool) (text : List ℕ) → cond bracketed (is_inner_text text) (is_plain_text text) ≡ true
    → IsSome (cond bracketed (in_brackets text) text)
some_written true text is = record { first = 91; more = flat_map escaped_byte text ++ 93 ∷ []; is = refl }
some_written false text is = some_plain text is

pub written-some : (token : Token) → is_sound token ≡ true → IsSome (written token)
written-some token is = some_written token.bracketed token.text is

-- the last byte of a line is that of its last token
last_after : (a : ℕ) (front : List ℕ) (token : Token) (tokens : List Token) → is_sound token ≡ true
    → last_is a (front ++ 32 ∷ fields_text token tokens) ≡ last_is a (fields_text token tokens)
last_after a front token tokens sound =
    let some = written-some token sound in
    let is : fields_text token tokens ≡ some.first ∷ (some.more ++ flat_map after_space (map written tokens)) = ap (λ (t : List ℕ). t ++ flat_map after_space (map written tokens)) some.is in
    ap (λ (t : List ℕ). last_is a (front ++ 32 ∷ t)) is ∙ last_is-append a 32 front (some.first ∷ (some.more ++ flat_map after_space (map written tokens))) ∙ ap (last_is a) (sym is)

-- the pieces of a line come before its end
pub fields_stand : (token : Token) (tokens : List Token) (rest : List ℕ) → is_sound token ≡ true → list_all is_sound tokens ≡ true → goes_on rest ≡ false
    → (last_is 92 (fields_text token tokens) ≡ true → join_after_backslash rest ≡ None) → all_may_precede (field_pieces token tokens) rest ≡ true
fields_stand token [] rest sound all ends last =
    and_from (may_precede (piece_of token) rest) true (piece_of-may_precede token rest sound ends (λ y. last (ap (last_is 92) (append-nil (written token)) ∙ y))) refl
fields_stand token (next ∷ tokens) rest sound all ends last =
    let parts = and_parts (is_sound next) (list_all is_sound tokens) all in
    let more = spelling (field_pieces next tokens) ++ rest in
    and_from (may_precede (piece_of token) (32 ∷ more)) (all_may_precede (field_pieces next tokens) rest)
    (piece_of-may_precede token (32 ∷ more) sound refl (λ y. refl))
    (fields_stand next tokens rest parts.0 parts.1 ends (λ y. last (last_after 92 (written token) next tokens parts.0 ∙ y)))
