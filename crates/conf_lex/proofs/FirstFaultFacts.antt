-- From the result for the joined lines to the rules and the first fault of a text.
use Rattle.std.proofs.Common.{◌≡◌, ℕ, ◌+◌, ◌<◌, ◌≤◌, Bool, true, false, ◌||◌, eqb, List, [], ◌∷◌, ◌++◌, length, take, drop, Option, Some, None, Result, Ok, Err, refl, sym, ap, ◌∙◌, subst, arith, eq-eqb, cond, nat_lt, ◌↔◌, IfOk, All, ◌⊎◌, inl, inr}
use Rattle.std.specs.List.{flat_map, list_any}
use Rattle.std.proofs.lemmas.List.Elements.{All-nil, All-cons, All-append}
use Rattle.pam_base.specs.Bytes.{has_byte, IsFirstPlace}
use Rattle.pam_base.specs.declared.fault.FaultKind.{FaultKind}
use Rattle.pam_base.specs.declared.fault.FaultKind.TheVariants.{OpenBracket, NulByte, RuleTooLong, FileTooLong}
use Rattle.pam_base.specs.declared.fault.Refuse.{Refuse}
use Rattle.pam_base.specs.declared.fault.Refuse.TheVariants.{NoMemory, Named}
use Rattle.conf_lex.specs.declared.token.Token.{Token}
use Rattle.conf_lex.specs.declared.token.RawRule.{RawRule}
use Rattle.conf_lex.specs.declared.token.LexFault.{LexFault}
use Rattle.conf_lex.specs.Piece.{Piece, newline, spelling, tokens_of, is_newline, is_open}
use Rattle.conf_lex.specs.Reading.{pieces_of}
use Rattle.conf_lex.specs.Rules.{newlines, JoinedLine, put_before, lines_of_pieces, numbered, joined_lines, rule_at, line_rules, line_fault, or_else, first_fault, Spells, HasLineFault, HasNul, IsFaultOf, IsFirstFault, HasNoFault}
use Rattle.conf_lex.specs.Lexing.{given, answer_at, Gives, IfNamed}
use Rattle.conf_lex.proofs.Once.{either, one_reading}
use Rattle.conf_lex.proofs.Every.{which, chosen, reading_is}

-- ---- the first place of a byte

or_true : (a b : Bool) → b ≡ true → (a || b) ≡ true
or_true true b e = refl
or_true false b e = e

differs : (byte : ℕ) → eqb byte byte ≡ false → ⊥
differs byte e = let no : true ≡ false = sym (eq-eqb byte byte refl) ∙ e in absurd cc

has_at : (byte : ℕ) (front back : List ℕ) → has_byte byte (front ++ byte ∷ back) ≡ true
has_at byte [] back = rw (eq-eqb byte byte refl) refl
has_at byte (b ∷ bs) back = or_true (eqb b byte) (has_byte byte (bs ++ byte ∷ back)) (has_at byte bs back)

pub place_has : (n byte : ℕ) (text : List ℕ) → IsFirstPlace (Some n) byte text → has_byte byte text ≡ true
place_has n byte text at = ap (has_byte byte) at.2 ∙ has_at byte (take n text) (drop (n + 1) text)

same_place : (byte : ℕ) (f g s t : List ℕ) → has_byte byte f ≡ false → has_byte byte g ≡ false → f ++ byte ∷ s ≡ g ++ byte ∷ t → f ≡ g
same_place byte [] [] s t ef eg e = refl
same_place byte [] (b ∷ bs) s t ef eg e =
    let parts = either (eqb b byte) (has_byte byte bs) eg in
    let is : byte ≡ b = cc in
    let no : eqb byte byte ≡ false = subst (λ (x : ℕ). eqb x byte ≡ false) (sym is) parts.0 in
    absurd (differs byte no)
same_place byte (b ∷ bs) [] s t ef eg e =
    let parts = either (eqb b byte) (has_byte byte bs) ef in
    let is : byte ≡ b = cc in
    let no : eqb byte byte ≡ false = subst (λ (x : ℕ). eqb x byte ≡ false) (sym is) parts.0 in
    absurd (differs byte no)
same_place byte (b ∷ bs) (c ∷ cs) s t ef eg e =
    let one = either (eqb b byte) (has_byte byte bs) ef in
    let two = either (eqb c byte) (has_byte byte cs) eg in
    let tails : bs ++ byte ∷ s ≡ cs ++ byte ∷ t = cc in
    let heads : b ≡ c = cc in
    let more = same_place byte bs cs s t one.1 two.1 tails in
    cc

-- two first NUL bytes are in one line
pub one_nul : (text : List ℕ) (n m : ℕ) → IsFirstPlace (Some n) 0 text → IsFirstPlace (Some m) 0 text → newlines (take n text) ≡ newlines (take m text)
one_nul text n m a b = ap newlines (same_place 0 (take n text) (take m text) (drop (n + 1) text) (drop (m + 1) text) a.1 b.1 (sym a.2 ∙ b.2))

-- ---- faults of joined lines

newline_closed : (p : Piece) → is_newline p ≡ true → is_open p ≡ false
newline_closed newline e = refl
newline_closed _ e = absurd cc

or_assoc : (a b c : Bool) → (a || b || c) ≡ (a || (b || c))
or_assoc true b c = refl
or_assoc false b c = refl

or_false : (a : Bool) → (a || false) ≡ a
or_false true = refl
or_false false = refl

abbrev any_open : List (List Piece) → Bool
any_open ls = list_any (λ l. list_any is_open l) ls

front_open : (p : Piece) (ls : List (List Piece)) → any_open (put_before p ls) ≡ (is_open p || any_open ls)
front_open p [] = or_false (is_open p || false)
front_open p (l ∷ ls) = or_assoc (is_open p) (list_any is_open l) (any_open ls)

lines_open : (ps : List Piece) → any_open (lines_of_pieces ps) ≡ list_any is_open ps
lines_open [] = refl
lines_open (p ∷ ps) =
    elim (which (is_newline p)) [
      | inl y ↦ rw (y, newline_closed p y) (lines_open ps)
      | inr n ↦ rw n (front_open p (lines_of_pieces ps) ∙ ap (λ (b : Bool). is_open p || b) (lines_open ps))
    ]

none_both : (a b : Option LexFault) → or_else a b ≡ None → (a ≡ None) × (b ≡ None)
none_both None b e = (refl, e)
none_both (Some f) b e = absurd cc

line_closed : (l : JoinedLine) → line_fault l ≡ None → list_any is_open l.pieces ≡ false
line_closed l e =
    elim (chosen (nat_lt 4096 (length (spelling l.pieces))) (Some (record { line = l.first; kind = RuleTooLong })) (cond (list_any is_open l.pieces) (Some (record { line = l.first; kind = OpenBracket })) None) None e) [
      | inl h ↦ absurd cc
      | inr h ↦ elim (chosen (list_any is_open l.pieces) (Some (record { line = l.first; kind = OpenBracket })) None None h.1) [ inl k ↦ absurd cc | inr k ↦ k.0 ]
    ]

-- lines without a fault have no open bracket
none_open : (n : ℕ) (ls : List (List Piece)) → first_fault (numbered n ls) ≡ None → any_open ls ≡ false
none_open n [] e = refl
none_open n (l ∷ ls) e =
    let parts = none_both (line_fault (record { first = n; pieces = l })) (first_fault (numbered (n + newlines (spelling l) + 1) ls)) e in
    rw (line_closed (record { first = n; pieces = l }) parts.0, none_open (n + newlines (spelling l) + 1) ls parts.1) refl

-- a joined line's fault is one of two kinds
abbrev IsLineKind : FaultKind → Type 0
IsLineKind RuleTooLong = Unit {0}
IsLineKind OpenBracket = Unit {0}
IsLineKind _ = ⊥

by_kind : (f g : LexFault) → Some f ≡ Some g → IsLineKind f.kind → IsLineKind g.kind
by_kind f g e h = let is : f ≡ g = cc in subst (λ (x : LexFault). IsLineKind x.kind) is h

which_or : (a b : Option LexFault) (f : LexFault) → or_else a b ≡ Some f → (a ≡ Some f) ⊎ (b ≡ Some f)
which_or None b f e = inr e
which_or (Some g) b f e = inl e

line_kind : (l : JoinedLine) (f : LexFault) → line_fault l ≡ Some f → IsLineKind f.kind
line_kind l f e =
    elim (chosen (nat_lt 4096 (length (spelling l.pieces))) (Some (record { line = l.first; kind = RuleTooLong })) (cond (list_any is_open l.pieces) (Some (record { line = l.first; kind = OpenBracket })) None) (Some f) e) [
      | inl h ↦ by_kind (record { line = l.first; kind = RuleTooLong }) f h.1 tt
      | inr h ↦ elim (chosen (list_any is_open l.pieces) (Some (record { line = l.first; kind = OpenBracket })) None (Some f) h.1) [ inl k ↦ by_kind (record { line = l.first; kind = OpenBracket }) f k.1 tt | inr k ↦ absurd cc ]
    ]

first_kind : (ls : List JoinedLine) (f : LexFault) → first_fault ls ≡ Some f → IsLineKind f.kind
first_kind [] f e = absurd cc
first_kind (l ∷ ls) f e =
    elim (which_or (line_fault l) (first_fault ls) f e) [ inl h ↦ line_kind l f h | inr h ↦ first_kind ls f h ]

-- ---- from the result to the definitions

abbrev faults : List ℕ → Option LexFault
faults text = first_fault (joined_lines (pieces_of text))

abbrev all_rules : List ℕ → List RawRule
all_rules text = flat_map line_rules (joined_lines (pieces_of text))

given_ok : (o : Option LexFault) (rules given_rules : List RawRule) → given o rules ≡ Ok given_rules → (o ≡ None) × (rules ≡ given_rules)
given_ok None rules given_rules e = let is : rules ≡ given_rules = cc in (refl, is)
given_ok (Some f) rules given_rules e = absurd cc

given_err : (o : Option LexFault) (rules : List RawRule) (f : LexFault) → given o rules ≡ Err f → o ≡ Some f
given_err None rules f e = absurd cc
given_err (Some g) rules f e = let is : g ≡ f = cc in ap Some is

answer_faults : (text : List ℕ) → answer_at 1 text ≡ given (faults text) (all_rules text)
unfolding answer_at
answer_faults text = refl

which_fault : (o : Option LexFault) → (o ≡ None) ⊎ ((f : LexFault) × (o ≡ Some f))
which_fault None = inl refl
which_fault (Some f) = inr (f, refl)

-- what a line's fault says about the one reading
line_fault_of : (text : List ℕ) (f : LexFault) → HasLineFault text f → faults text ≡ Some f
line_fault_of text f h = ap (λ (ps : List Piece). first_fault (joined_lines ps)) (one_reading text h.pieces h.reading) ∙ h.fault_is

rules_spelled : (text : List ℕ) (rules : List RawRule) → Spells text rules → all_rules text ≡ rules
rules_spelled text rules s = ap (λ (ps : List Piece). flat_map line_rules (joined_lines ps)) (one_reading text s.pieces s.reading) ∙ sym s.rules_are

module _ (text : List ℕ) (long : 65536 < length text) where
  pub long_only : (line : ℕ) (kind : FaultKind) → IsFaultOf kind line text
      → ◌≡◌ {A = LexFault} (record { line = line; kind = kind }) (record { line = 0; kind = FileTooLong })
  long_only line FileTooLong h = ap (λ (n : ℕ). record { line = n; kind = FileTooLong }) h.1
  long_only line NulByte h = absurd (let short = h.short in omega arith)
  long_only line RuleTooLong h = absurd (let short = h.short in omega arith)
  long_only line OpenBracket h = absurd (let short = h.short in omega arith)
  long_only line _ h = absurd h

module _ (text : List ℕ) (short : length text ≤ 65536) (place : ℕ) (at : IsFirstPlace (Some place) 0 text) where
  pub nul_here : HasNul text (1 + newlines (take place text))
  nul_here = record { short = short; place = place; first = at; line_is = refl }

  no_lines : has_byte 0 text ≡ false → ⊥
  no_lines e = let no : true ≡ false = sym (place_has place 0 text at) ∙ e in absurd cc

  pub nul_line : (line : ℕ) → HasNul text line → line ≡ 1 + newlines (take place text)
  nul_line line h = h.line_is ∙ ap (λ (n : ℕ). 1 + n) (one_nul text h.place place h.first at)

  pub nul_only : (line : ℕ) (kind : FaultKind) → IsFaultOf kind line text
      → ◌≡◌ {A = LexFault} (record { line = line; kind = kind }) (record { line = 1 + newlines (take place text); kind = NulByte })
  nul_only line FileTooLong h = absurd (omega (arith, h.0))
  nul_only line NulByte h = ap (λ (n : ℕ). record { line = n; kind = NulByte }) (nul_line line h)
  nul_only line RuleTooLong h = absurd (no_lines h.no_nul)
  nul_only line OpenBracket h = absurd (no_lines h.no_nul)
  nul_only line _ h = absurd h

  fault_line : Result (List RawRule) (Refuse LexFault) → ℕ
  fault_line (Err (Named f)) = f.line
  fault_line _ = 0

  fault_line-is : (k line : ℕ)
      → ◌≡◌ {A = Result (List RawRule) (Refuse LexFault)} (Err (Named (record { line = k; kind = NulByte }))) (Err (Named (record { line = line; kind = NulByte })))
      → k ≡ line
  unfolding fault_line
  fault_line-is k line e = ap fault_line e

  pub nul_given : (k line : ℕ) → k ≡ 1 + newlines (take place text)
      → (◌≡◌ {A = Result (List RawRule) (Refuse LexFault)} (Err (Named (record { line = k; kind = NulByte }))) (Err (Named (record { line = line; kind = NulByte })))) ↔ HasNul text line
  nul_given k line is = (λ e. record { short = short; place = place; first = at; line_is = sym (fault_line-is k line e) ∙ is }, λ h. ap (λ (n : ℕ). Err (Named (record { line = n; kind = NulByte }))) (is ∙ sym (nul_line line h)))

  pub nul_first : (k : ℕ) → k ≡ 1 + newlines (take place text) → (f : LexFault) → IsFirstFault text f
      → ◌≡◌ {A = Result (List RawRule) LexFault} (Err f) (Err (record { line = k; kind = NulByte }))
  nul_first k is f h = ap Err (nul_only f.line f.kind h ∙ ap (λ (n : ℕ). record { line = n; kind = NulByte }) (sym is))

module _ (text : List ℕ) (short : length text ≤ 65536) (no_nul : has_byte 0 text ≡ false) where
  has_fault : (f : LexFault) → faults text ≡ Some f → HasLineFault text f
  has_fault f e = record { short = short; no_nul = no_nul; pieces = pieces_of text; reading = reading_is text; fault_is = e }

  no_nul_line : (line : ℕ) → HasNul text line → ⊥
  no_nul_line line h = let no : true ≡ false = sym (place_has h.place 0 text h.first) ∙ no_nul in absurd cc

  is_fault : (line : ℕ) (kind : FaultKind) → IsLineKind kind → HasLineFault text (record { line = line; kind = kind }) → IsFaultOf kind line text
  is_fault line RuleTooLong k h = h
  is_fault line OpenBracket k h = h
  is_fault line _ k h = absurd k

  -- a fault of the text is one of its joined lines'
  fault_in : (line : ℕ) (kind : FaultKind) → IsFaultOf kind line text → faults text ≡ Some (record { line = line; kind = kind })
  fault_in line FileTooLong h = absurd (omega (arith, h.0))
  fault_in line NulByte h = absurd (no_nul_line line h)
  fault_in line RuleTooLong h = line_fault_of text (record { line = line; kind = RuleTooLong }) h
  fault_in line OpenBracket h = line_fault_of text (record { line = line; kind = OpenBracket }) h
  fault_in line _ h = absurd h

  no_fault : faults text ≡ None → HasNoFault text
  no_fault e f h = let no : Some f ≡ None = sym (fault_in f.line f.kind h) ∙ e in absurd cc

  spells : faults text ≡ None → Spells text (all_rules text)
  spells e = record { pieces = pieces_of text; reading = reading_is text; closed = sym (lines_open (pieces_of text)) ∙ none_open 1 (lines_of_pieces (pieces_of text)) e; rules_are = refl }

  pub read_of : (rules : List RawRule) → answer_at 1 text ≡ Ok rules → HasNoFault text × Spells text rules
  read_of rules e =
      let parts = given_ok (faults text) (all_rules text) rules (sym (answer_faults text) ∙ e) in
      (no_fault parts.0, subst (λ (rs : List RawRule). Spells text rs) parts.1 (spells parts.0))

  pub fault_of : (f : LexFault) → answer_at 1 text ≡ Err f → IsFirstFault text f
  fault_of f e =
      let is = given_err (faults text) (all_rules text) f (sym (answer_faults text) ∙ e) in
      is_fault f.line f.kind (first_kind (joined_lines (pieces_of text)) f is) (has_fault f is)

  pub named_only : (f : LexFault) → IsFirstFault text f → answer_at 1 text ≡ Err f
  named_only f h = answer_faults text ∙ ap (λ (o : Option LexFault). given o (all_rules text)) (fault_in f.line f.kind h)

  none_if : HasNoFault text → faults text ≡ None
  none_if none = elim (which_fault (faults text)) [ inl e ↦ e | inr h ↦ absurd (none h.0 (fault_of h.0 (answer_faults text ∙ ap (λ (o : Option LexFault). given o (all_rules text)) h.1))) ]

  pub spelled_only : (rules : List RawRule) → HasNoFault text → Spells text rules → answer_at 1 text ≡ Ok rules
  spelled_only rules none s = answer_faults text ∙ rw (none_if none, rules_spelled text rules s) refl

  pub gives_read : (r : Result (List RawRule) (Refuse LexFault)) → Gives r (answer_at 1 text) → IfOk r (λ rules. HasNoFault text × Spells text rules)
  gives_read (Ok rules) g = read_of rules g
  gives_read (Err e) g = tt

  pub gives_spelled : (r : Result (List RawRule) (Refuse LexFault)) → Gives r (answer_at 1 text) → (rules : List RawRule) → HasNoFault text
      → Spells text rules → Gives r (Ok rules)
  gives_spelled (Ok x) g rules none s = sym (spelled_only rules none s) ∙ g
  gives_spelled (Err (Named f)) g rules none s = sym (spelled_only rules none s) ∙ g
  gives_spelled (Err NoMemory) g rules none s = tt

  pub gives_fault : (r : Result (List RawRule) (Refuse LexFault)) → Gives r (answer_at 1 text) → IfNamed r (λ f. IsFirstFault text f)
  gives_fault (Ok x) g = tt
  gives_fault (Err (Named f)) g = fault_of f g
  gives_fault (Err NoMemory) g = tt

  pub gives_first : (r : Result (List RawRule) (Refuse LexFault)) → Gives r (answer_at 1 text) → (f : LexFault) → IsFirstFault text f → Gives r (Err f)
  gives_first (Ok x) g f h = sym (named_only f h) ∙ g
  gives_first (Err (Named e)) g f h = sym (named_only f h) ∙ g
  gives_first (Err NoMemory) g f h = tt

  named : (r : Result (List RawRule) (Refuse LexFault)) → Gives r (answer_at 1 text) → (f : LexFault) → r ≡ Err (Named f) → IsFirstFault text f
  named r g f e = let h : answer_at 1 text ≡ Err f = subst (λ (x : Result (List RawRule) (Refuse LexFault)). Gives x (answer_at 1 text)) e g in fault_of f h

  pub gives_long : (r : Result (List RawRule) (Refuse LexFault)) → Gives r (answer_at 1 text)
      → (r ≡ Err (Named (record { line = 0; kind = FileTooLong }))) ↔ (65536 < length text)
  gives_long r g = (λ e. (named r g (record { line = 0; kind = FileTooLong }) e).0, λ long. absurd (omega arith))

  pub gives_nul : (r : Result (List RawRule) (Refuse LexFault)) → Gives r (answer_at 1 text) → (line : ℕ)
      → (r ≡ Err (Named (record { line = line; kind = NulByte }))) ↔ HasNul text line
  gives_nul r g line = (λ e. named r g (record { line = line; kind = NulByte }) e, λ h. absurd (no_nul_line line h))

-- ---- laws

pub one_spelling : (text : List ℕ) (rules others : List RawRule) → Spells text rules → Spells text others → rules ≡ others
one_spelling text rules others s t = sym (rules_spelled text rules s) ∙ rules_spelled text others t

same_fault : (text : List ℕ) (f g : LexFault) → length text ≤ 65536 → has_byte 0 text ≡ false → IsFirstFault text f → IsFirstFault text g → f ≡ g
same_fault text f g short no_nul h k =
    let e : Some f ≡ Some g = sym (fault_in text short no_nul f.line f.kind h) ∙ fault_in text short no_nul g.line g.kind k in
    cc

by_first : (text : List ℕ) (line : ℕ) (kind : FaultKind) (g : LexFault) → IsFaultOf kind line text → IsFirstFault text g
    → ◌≡◌ {A = LexFault} (record { line = line; kind = kind }) g
by_first text line FileTooLong g h k = long_only text h.0 line FileTooLong h ∙ sym (long_only text h.0 g.line g.kind k)
by_first text line NulByte g h k = nul_only text h.short h.place h.first line NulByte h ∙ sym (nul_only text h.short h.place h.first g.line g.kind k)
by_first text line RuleTooLong g h k = same_fault text (record { line = line; kind = RuleTooLong }) g h.short h.no_nul h k
by_first text line OpenBracket g h k = same_fault text (record { line = line; kind = OpenBracket }) g h.short h.no_nul h k
by_first text line _ g h k = absurd h

pub one_first_fault : (text : List ℕ) (fault other : LexFault) → IsFirstFault text fault → IsFirstFault text other → fault ≡ other
one_first_fault text fault other h k = by_first text fault.line fault.kind other h k

-- ---- each rule has a token

abbrev HasToken : RawRule → Type 0
HasToken rule = 0 < length rule.tokens

rule_has_token : (n : ℕ) (tokens : List Token) → All HasToken (rule_at n tokens)
rule_has_token n [] = All-nil HasToken
rule_has_token n (t ∷ ts) = All-cons HasToken _ [] (omega arith) (All-nil HasToken)

rules_have_tokens : (ls : List JoinedLine) → All HasToken (flat_map line_rules ls)
rules_have_tokens [] = All-nil HasToken
rules_have_tokens (l ∷ ls) = All-append HasToken (line_rules l) (flat_map line_rules ls) (rule_has_token l.first (tokens_of l.pieces)) (rules_have_tokens ls)

spelled_have_tokens : (text : List ℕ) (rules : List RawRule) → Spells text rules → All HasToken rules
spelled_have_tokens text rules s = subst (λ (rs : List RawRule). All HasToken rs) (sym s.rules_are) (rules_have_tokens (joined_lines s.pieces))

pub gives_tokens : (text : List ℕ) (r : Result (List RawRule) (Refuse LexFault)) → IfOk r (λ rules. HasNoFault text × Spells text rules)
    → IfOk r (λ rules. All HasToken rules)
gives_tokens text (Ok rules) h = spelled_have_tokens text rules h.1
gives_tokens text (Err e) h = tt
