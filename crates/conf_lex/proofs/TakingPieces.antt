-- Taking a piece of a joined line from the beginning of a text, and one after another.
use Rattle.std.proofs.Common.{◌≡◌, ℕ, zero, suc, ◌+◌, ◌≤◌, Bool, true, false, not, ◌||◌, eqb, List, [], ◌∷◌, ◌++◌, length, take, drop, None, refl, sym, ap, ◌∙◌, subst, arith, append_assoc, append-nil, length-append, inl, inr}
use Rattle.std.proofs.lemmas.Bool.{eqb-true}
use Rattle.std.proofs.lemmas.Grind.{flat_map-append}
use Rattle.std.proofs.lemmas.List.{take-append-drop}
use Rattle.std.proofs.lemmas.List.Folds.{list_any-append}
use Rattle.std.specs.List.{list_any}
use Rattle.pam_base.specs.Bytes.{has_byte}
use Rattle.pam_base.specs.White.{is_white}
use Rattle.conf_lex.specs.declared.lexer.LinePiece.{LinePiece}
use Rattle.conf_lex.specs.declared.lexer.Line.{Line}
use Rattle.conf_lex.specs.declared.lexer.LinePiece.TheVariants as founds
use Rattle.conf_lex.specs.Piece.{BracketUnit, units_bytes, units_may_precede, Piece, white, join, plain, bracket, open_bracket, comment, piece_bytes, piece_tokens, spelling, tokens_of, is_newline, is_open, may_precede, all_may_precede, at_line_end, begins_with, goes_on, all_go_on, Reads}
use Rattle.conf_lex.specs.Reading.{unit_at, run_of}
use Rattle.conf_lex.specs.Rules.{newlines}
use Rattle.conf_lex.specs.Lexing.{begins_white, TakesJoin, TakesUnits, TakesPiece, TakesPieces, found_tokens, found_open}
use Rattle.conf_lex.proofs.Once.{both, either, white_cases, goes_on_facts}
use Rattle.conf_lex.proofs.Every.{which, unit_end, and_true}
use Rattle.conf_lex.proofs.TextUnitFacts.{newlines-append, no_newline, join_newline}

pub join_piece : (taken : Bool) (before after : List ℕ) (m n : ℕ) → TakesJoin taken before after m n → taken ≡ true → TakesPiece founds.Blank before after m n
join_piece false before after m n t e = absurd cc
join_piece true before after m n t e = record { piece = join t.0; spelled = t.1; stand = refl; within = refl; tokens = refl; opened = refl; lines = t.2 ∙ ap (λ k. m + k) (sym (join_newline t.0)) }

-- ---- white space and comments

white_is_none : (b : ℕ) → is_white b ≡ true → newlines (b ∷ []) ≡ 0
white_is_none b e = elim (white_cases b e) [ inl x ↦ rw x refl | inr r ↦ elim r [ inl x ↦ rw x refl | inr x ↦ rw x refl ] ]

pub white_piece : (before after : List ℕ) (m n : ℕ) → begins_white before ≡ true → after ≡ drop 1 before → n ≡ m → TakesPiece founds.Blank before after m n
white_piece [] after m n e rest line = absurd cc
white_piece (b ∷ bs) after m n e rest line = record { piece = white b; spelled = ap (λ (t : List ℕ). b ∷ t) (sym rest); stand = e; within = refl; tokens = refl; opened = refl; lines = omega (arith, line, white_is_none b e) }

pub no_newlines : (text : List ℕ) → has_byte 10 text ≡ false → newlines text ≡ 0
no_newlines [] e = refl
no_newlines (b ∷ bs) e =
    let parts = either (eqb b 10) (has_byte 10 bs) e in
    omega (arith, newlines-append (b ∷ []) bs, no_newline b parts.0, no_newlines bs parts.1)

pub comment_piece : (before after : List ℕ) (m n k : ℕ) → begins_with 35 before ≡ true → has_byte 10 (take k before) ≡ false
    → at_line_end (drop k before) ≡ true → after ≡ drop k before → n ≡ m → TakesPiece founds.Blank before after m n
comment_piece [] after m n k e one end rest line = absurd cc
comment_piece (b ∷ bs) after m n zero e one end rest line = let no : eqb 35 10 ≡ true = subst (λ (x : ℕ). eqb x 10 ≡ true) (eqb-true b 35 e) end in absurd cc
comment_piece (b ∷ bs) after m n (suc k) e one end rest line =
    let parts = either (eqb b 10) (has_byte 10 (take k bs)) one in
    let none : newlines (35 ∷ take k bs) ≡ 0 = no_newlines (35 ∷ take k bs) parts.1 in
    record {
      piece = comment (take k bs);
      spelled = ap (λ (x : ℕ). x ∷ bs) (eqb-true b 35 e) ∙ ap (λ (t : List ℕ). 35 ∷ t) (sym (take-append-drop k bs) ∙ ap (λ (t : List ℕ). take k bs ++ t) (sym rest));
      stand = and_true _ _ (ap not parts.1) (ap at_line_end rest ∙ end);
      within = refl;
      tokens = refl;
      opened = refl;
      lines = omega (arith, line, none);
    }

-- ---- plain tokens

pub run_front : (text : List ℕ) → take (length (run_of text)) text ≡ run_of text
run_front [] = refl
run_front (b ∷ bs) = elim (which (goes_on (b ∷ bs))) [ inl y ↦ rw y (ap (λ (t : List ℕ). b ∷ t) (run_front bs)) | inr n ↦ rw n refl ]

run_whole : (text : List ℕ) → text ≡ run_of text ++ drop (length (run_of text)) text
run_whole text = sym (take-append-drop (length (run_of text)) text) ∙ ap (λ (t : List ℕ). t ++ drop (length (run_of text)) text) (run_front text)

pub run_on : (text : List ℕ) → all_go_on (run_of text) (drop (length (run_of text)) text) ≡ true
run_on [] = refl
run_on (b ∷ bs) =
    elim (which (goes_on (b ∷ bs))) [
      | inl y ↦ rw y (and_true _ _ (ap (λ (t : List ℕ). goes_on (b ∷ t)) (sym (run_whole bs)) ∙ y) (run_on bs))
      | inr n ↦ rw n refl
    ]

run_ends : (text : List ℕ) → goes_on (drop (length (run_of text)) text) ≡ false
run_ends [] = refl
run_ends (b ∷ bs) = elim (which (goes_on (b ∷ bs))) [ inl y ↦ rw y (run_ends bs) | inr n ↦ rw n n ]

pub run_newlines : (run rest : List ℕ) → all_go_on run rest ≡ true → newlines run ≡ 0
run_newlines [] rest e = refl
run_newlines (b ∷ bs) rest e =
    let parts = both (goes_on (b ∷ (bs ++ rest))) (all_go_on bs rest) e in
    let facts = goes_on_facts b (bs ++ rest) parts.0 in
    omega (arith, newlines-append (b ∷ []) bs, no_newline b facts.no_newline, run_newlines bs rest parts.1)

run_begins : (text : List ℕ) → goes_on text ≡ true → begins_with 91 text ≡ false → (at_line_end (run_of text) ≡ false) × (begins_with 91 (run_of text) ≡ false)
run_begins [] on no_bracket = absurd cc
run_begins (b ∷ bs) on no_bracket = let facts = goes_on_facts b bs on in rw on (facts.no_newline, no_bracket)

pub plain_piece : (before after text : List ℕ) (m n k : ℕ) → goes_on before ≡ true → begins_with 91 before ≡ false → k ≡ length (run_of before)
    → text ≡ take k before → after ≡ drop k before → n ≡ m → TakesPiece (founds.Token (record { bracketed = false; text = text })) before after m n
plain_piece before after text m n k on no_bracket is text_is rest line =
    let after_is : after ≡ drop (length (run_of before)) before = rest ∙ ap (λ (i : ℕ). drop i before) is in
    let run_is : text ≡ run_of before = text_is ∙ ap (λ (i : ℕ). take i before) is ∙ run_front before in
    let start = run_begins before on no_bracket in
    let none = run_newlines (run_of before) _ (run_on before) in
    record {
      piece = plain (run_of before);
      spelled = run_whole before ∙ ap (λ (t : List ℕ). run_of before ++ t) (sym after_is);
      stand = and_true _ _ (and_true _ _ (and_true _ _ (ap not start.0) (ap not start.1)) (ap (all_go_on (run_of before)) after_is ∙ run_on before)) (ap not (ap goes_on after_is ∙ run_ends before));
      within = refl;
      tokens = ap (λ (t : List ℕ). record { bracketed = false; text = t } ∷ []) run_is;
      opened = refl;
      lines = omega (arith, line, none);
    }

-- ---- brackets

bracket_lines : (us : List BracketUnit) → newlines (91 ∷ (units_bytes us ++ 93 ∷ [])) ≡ newlines (units_bytes us)
bracket_lines us = newlines-append (91 ∷ []) (units_bytes us ++ 93 ∷ []) ∙ (omega (arith, newlines-append (units_bytes us) (93 ∷ [])))

after_bracket : (before : List ℕ) → begins_with 91 before ≡ true → before ≡ 91 ∷ drop 1 before
after_bracket [] e = absurd cc
after_bracket (b ∷ bs) e = ap (λ (x : ℕ). x ∷ bs) (eqb-true b 91 e)

pub open_piece : (before inside after text : List ℕ) (m k n : ℕ) → begins_with 91 before ≡ true → inside ≡ drop 1 before → k ≡ m
    → TakesUnits text inside after k n → at_line_end after ≡ true → TakesPiece founds.OpenBracket before after m n
open_piece before inside after text m k n e is line us end = record {
  piece = open_bracket us.units;
  spelled = after_bracket before e ∙ ap (λ (t : List ℕ). 91 ∷ t) (sym is ∙ us.spelled);
  stand = and_true _ _ us.stand end;
  within = refl;
  tokens = refl;
  opened = refl;
  lines = omega (arith, us.lines, newlines-append (91 ∷ []) (units_bytes us.units));
}

no_both : (text : List ℕ) → at_line_end text ≡ true → at_line_end text ≡ false → ⊥
no_both text e f = let no : true ≡ false = sym e ∙ f in absurd cc

closes : (mid : List ℕ) → unit_at mid ≡ None → at_line_end mid ≡ false → mid ≡ 93 ∷ drop 1 mid
closes mid none open_end = elim (unit_end mid none) [ inl end ↦ absurd (no_both mid end open_end) | inr h ↦ h.1 ∙ ap (λ (t : List ℕ). 93 ∷ drop 1 t) (sym h.1) ]

pub bracket_piece : (before inside mid after text : List ℕ) (m k i n : ℕ) → begins_with 91 before ≡ true → inside ≡ drop 1 before → k ≡ m
    → TakesUnits text inside mid k i → unit_at mid ≡ None → at_line_end mid ≡ false → after ≡ drop 1 mid → n ≡ i
    → TakesPiece (founds.Token (record { bracketed = true; text = text })) before after m n
bracket_piece before inside mid after text m k i n e is line us none within rest last =
    let mid_is : mid ≡ 93 ∷ after = closes mid none within ∙ ap (λ (t : List ℕ). 93 ∷ t) (sym rest) in
    record {
      piece = bracket us.units;
      spelled = after_bracket before e ∙ ap (λ (t : List ℕ). 91 ∷ t) (sym is ∙ us.spelled ∙ ap (λ (t : List ℕ). units_bytes us.units ++ t) mid_is ∙ sym (append_assoc (units_bytes us.units) (93 ∷ []) after));
      stand = ap (units_may_precede us.units) (sym mid_is) ∙ us.stand;
      within = refl;
      tokens = ap (λ (t : List ℕ). record { bracketed = true; text = t } ∷ []) us.gives;
      opened = refl;
      lines = omega (arith, us.lines, bracket_lines us.units);
    }

-- ---- pieces, one after another

pub no_pieces : (line : Line) (text : List ℕ) (m : ℕ) → line.tokens ≡ [] → line.opened ≡ false → TakesPieces line text text m m
no_pieces line text m tokens opened = record { pieces = []; reads = record { spelled = refl; stand = refl }; within = refl; tokens = tokens; opened = opened; lines = omega arith }

-- the bytes of pieces with one more
pushed : (ps : List Piece) (p : Piece) (rest : List ℕ) → spelling (ps ++ p ∷ []) ++ rest ≡ spelling ps ++ (piece_bytes p ++ rest)
pushed ps p rest = rw (flat_map-append piece_bytes ps (p ∷ []), append-nil (piece_bytes p)) (append_assoc (spelling ps) (piece_bytes p) rest)

tokens_pushed : (ps : List Piece) (p : Piece) → tokens_of (ps ++ p ∷ []) ≡ tokens_of ps ++ piece_tokens p
tokens_pushed ps p = rw (flat_map-append piece_tokens ps (p ∷ []), append-nil (piece_tokens p)) refl

lines_pushed : (ps : List Piece) (p : Piece) (m k n : ℕ) → k ≡ m + newlines (spelling ps) → n ≡ k + newlines (piece_bytes p)
    → n ≡ m + newlines (spelling (ps ++ p ∷ []))
lines_pushed ps p m k n e f =
    let bytes : spelling (ps ++ p ∷ []) ≡ spelling ps ++ piece_bytes p = rw (flat_map-append piece_bytes ps (p ∷ []), append-nil (piece_bytes p)) refl in
    rw bytes (omega (arith, newlines-append (spelling ps) (piece_bytes p)))

or_false : (b : Bool) → (b || false) ≡ b
or_false true = refl
or_false false = refl

all_may_precede-push : (ps : List Piece) (p : Piece) (rest : List ℕ) → all_may_precede ps (piece_bytes p ++ rest) ≡ true → may_precede p rest ≡ true
    → all_may_precede (ps ++ p ∷ []) rest ≡ true
all_may_precede-push [] p rest e f = rw f refl
all_may_precede-push (q ∷ ps) p rest e f =
    let parts = both (may_precede q (spelling ps ++ (piece_bytes p ++ rest))) (all_may_precede ps (piece_bytes p ++ rest)) e in
    and_true _ _ (ap (may_precede q) (pushed ps p rest) ∙ parts.0) (all_may_precede-push ps p rest parts.1 f)

push_reads : (before mid after : List ℕ) (ps : List Piece) (p : Piece) → Reads before ps mid → mid ≡ piece_bytes p ++ after → may_precede p after ≡ true
    → Reads before (ps ++ p ∷ []) after
push_reads before mid after ps p r spelled stand = record {
  spelled = r.spelled ∙ ap (λ (s : List ℕ). spelling ps ++ s) spelled ∙ sym (pushed ps p after);
  stand = all_may_precede-push ps p after (ap (all_may_precede ps) (sym spelled) ∙ r.stand) stand;
}

any_push : (f : Piece → Bool) (ps : List Piece) (p : Piece) → list_any f (ps ++ p ∷ []) ≡ (list_any f ps || f p)
any_push f ps p = list_any-append f ps (p ∷ []) ∙ ap (λ (b : Bool). list_any f ps || b) (or_false (f p))

pub push_piece : (line next : Line) (found : LinePiece) (before mid after : List ℕ) (m k n : ℕ) → TakesPieces line before mid m k
    → TakesPiece found mid after k n → next.tokens ≡ line.tokens ++ found_tokens found → next.opened ≡ (line.opened || found_open found)
    → TakesPieces next before after m n
push_piece line next found before mid after m k n ps p tokens opened = record {
  pieces = ps.pieces ++ p.piece ∷ [];
  reads = push_reads before mid after ps.pieces p.piece ps.reads p.spelled p.stand;
  within = any_push is_newline ps.pieces p.piece ∙ rw (ps.within, p.within) refl;
  tokens = tokens ∙ rw (ps.tokens, p.tokens) (sym (tokens_pushed ps.pieces p.piece));
  opened = opened ∙ rw (ps.opened, p.opened) (sym (any_push is_open ps.pieces p.piece));
  lines = lines_pushed ps.pieces p.piece m k n ps.lines p.lines;
}

pub run_fits : (text : List ℕ) → length (run_of text) ≤ length text
run_fits text = omega (arith, ap length (run_whole text), length-append (run_of text) (drop (length (run_of text)) text))
