-- Every text has a reading.
use Rattle.std.proofs.Common.{◌≡◌, ℕ, zero, suc, ◌<◌, ◌≤◌, Bool, true, false, not, ◌||◌, ◌&&◌, cond, eqb, List, [], ◌∷◌, ◌++◌, length, Option, Some, None, refl, sym, ap, ◌∙◌, subst, arith, append_assoc, length-append, ◌⊎◌, inl, inr}
use Rattle.std.proofs.lemmas.Bool.{eqb-true}
use Rattle.pam_base.specs.Bytes.{has_byte}
use Rattle.pam_base.specs.White.{is_white}
use Rattle.conf_lex.specs.Piece.{Join, feed, return_feed, join_bytes, BracketUnit, escaped, joined, single, unit_bytes, units_bytes, Piece, newline, white, join, plain, bracket, open_bracket, comment, piece_bytes, spelling, begins_with, at_line_end, join_after_backslash, join_at, has_join, begins_join, goes_on, all_go_on, is_single, unit_may_precede, units_may_precede, may_precede, Reads, IsReading}
use Rattle.conf_lex.specs.Reading.{unit_at, pieces_of}
use Rattle.conf_lex.proofs.Once.{both, either, one_reading}

pub which : (b : Bool) → (b ≡ true) ⊎ (b ≡ false)
which true = inl refl
which false = inr refl

pub chosen : {A : Type 0} (b : Bool) (x y z : A) → cond b x y ≡ z → ((b ≡ true) × (x ≡ z)) ⊎ ((b ≡ false) × (y ≡ z))
chosen true x y z e = inl (refl, e)
chosen false x y z e = inr (refl, e)

-- ---- joins

pub and_true : (a b : Bool) → a ≡ true → b ≡ true → (a && b) ≡ true
and_true true true e f = refl
and_true true false e f = f
and_true false b e f = e

pub no_unit : (text : List ℕ) → length text ≤ 0 → unit_at text ≡ None
no_unit [] le = refl
no_unit (b ∷ bs) le = absurd (omega arith)

goes_on_by : (b : ℕ) (bs : List ℕ) → is_white b ≡ false → eqb b 35 ≡ false → eqb b 10 ≡ false → join_at (b ∷ bs) ≡ None → goes_on (b ∷ bs) ≡ true
goes_on_by b bs no_white no_hash no_newline no_join_at =
    let none : begins_join (b ∷ bs) ≡ false = ap has_join no_join_at in
    rw (no_white, no_hash, no_newline, none) refl

pub record IsJoin (text : List ℕ) (j : Join) : Type 0 where
  pub rest : List ℕ
  pub spelled : text ≡ join_bytes j ++ rest

pub begins : (a : ℕ) (text : List ℕ) → begins_with a text ≡ true → (rest : List ℕ) × (text ≡ a ∷ rest)
begins a [] e = absurd cc
begins a (b ∷ bs) e = (bs, ap (λ (x : ℕ). x ∷ bs) (eqb-true b a e))

a_return_feed : (b : ℕ) (bs rest : List ℕ) (j : Join) → b ≡ 13 → bs ≡ 10 ∷ rest → j ≡ return_feed → IsJoin (92 ∷ b ∷ bs) j
a_return_feed b bs rest j thirteen more is = record { rest = rest; spelled = rw (is, thirteen, more) refl }

after_backslash : (bs : List ℕ) (j : Join) → join_after_backslash bs ≡ Some j → IsJoin (92 ∷ bs) j
after_backslash [] j e = absurd cc
after_backslash (b ∷ bs) j e =
    elim (chosen (eqb b 10) (Some feed) (cond (eqb b 13 && begins_with 10 bs) (Some return_feed) None) (Some j) e) [
      | inl h ↦ (let is : j ≡ feed = cc in let ten : b ≡ 10 = eqb-true b 10 h.0 in record { rest = bs; spelled = rw (is, ten) refl })
      | inr h ↦ elim (chosen (eqb b 13 && begins_with 10 bs) (Some return_feed) None (Some j) h.1) [
        | inl k ↦
            (let is : j ≡ return_feed = cc in
            let parts = both (eqb b 13) (begins_with 10 bs) k.0 in
            let more = begins 10 bs parts.1 in
            a_return_feed b bs more.0 j (eqb-true b 13 parts.0) more.1 is)
        | inr k ↦ absurd cc
      ]
    ]

pub is_join : (text : List ℕ) (j : Join) → join_at text ≡ Some j → IsJoin text j
is_join [] j e = absurd cc
is_join (b ∷ bs) j e =
    elim (chosen (eqb b 92) (join_after_backslash bs) None (Some j) e) [
      | inl h ↦
          (let tail = after_backslash bs j h.1 in
          let is : b ≡ 92 = eqb-true b 92 h.0 in
          record { rest = tail.rest; spelled = ap (λ (x : ℕ). x ∷ bs) is ∙ tail.spelled })
      | inr h ↦ absurd cc
    ]

-- ---- units

pub record IsUnit (text : List ℕ) (u : BracketUnit) : Type 0 where
  pub rest : List ℕ
  pub spelled : text ≡ unit_bytes u ++ rest
  pub stand : unit_may_precede u rest ≡ true

pub which_join : (o : Option Join) → (o ≡ None) ⊎ ((j : Join) × (o ≡ Some j))
which_join None = inl refl
which_join (Some j) = inr (j, refl)

-- a byte that isn't the end, a join or an escape means itself
pub is_single_by : (b : ℕ) (bs : List ℕ) → join_at (b ∷ bs) ≡ None → (eqb b 92 && begins_with 93 bs) ≡ false → eqb b 93 ≡ false → eqb b 10 ≡ false
    → is_single (b ∷ bs) ≡ true
is_single_by b bs no_join_at no_escape no_close no_newline =
    let none : begins_join (b ∷ bs) ≡ false = ap has_join no_join_at in
    rw (no_close, no_newline, no_escape, none) refl

an_escape : (b : ℕ) (bs rest : List ℕ) → b ≡ 92 → bs ≡ 93 ∷ rest → IsUnit (b ∷ bs) escaped
an_escape b bs rest is more = record { rest = rest; spelled = rw (is, more) refl; stand = refl }

pub no_unit_at_close : (bs : List ℕ) → unit_at (93 ∷ bs) ≡ None
no_unit_at_close bs = refl

unit_without : (b : ℕ) (bs : List ℕ) → join_at (b ∷ bs) ≡ None → (eqb b 92 && begins_with 93 bs) ≡ false
    → (unit_at (b ∷ bs) ≡ None) ⊎ ((u : BracketUnit) × IsUnit (b ∷ bs) u)
unit_without b bs none no_escape =
    elim (which (eqb b 93 || eqb b 10)) [
      | inl y ↦ inl (rw (none, no_escape, y) refl)
      | inr n ↦
          (let parts = either (eqb b 93) (eqb b 10) n in
          inr (single b, record { rest = bs; spelled = refl; stand = is_single_by b bs none no_escape parts.0 parts.1 }))
    ]

pub which_unit : (text : List ℕ) → (unit_at text ≡ None) ⊎ ((u : BracketUnit) × IsUnit text u)
which_unit [] = inl refl
which_unit (b ∷ bs) =
    elim (which_join (join_at (b ∷ bs))) [
      | inr h ↦ (let is = is_join (b ∷ bs) h.0 h.1 in inr (joined h.0, record { rest = is.rest; spelled = is.spelled; stand = refl }))
      | inl none ↦ elim (which (eqb b 92 && begins_with 93 bs)) [
        | inl y ↦
            (let parts = both (eqb b 92) (begins_with 93 bs) y in
            let more = begins 93 bs parts.1 in
            inr (escaped, an_escape b bs more.0 (eqb-true b 92 parts.0) more.1))
        | inr n ↦ unit_without b bs none n
      ]
    ]

pub record IsUnits (text : List ℕ) : Type 0 where
  pub units : List BracketUnit
  pub rest : List ℕ
  pub spelled : text ≡ units_bytes units ++ rest
  pub stand : units_may_precede units rest ≡ true
  pub ends : unit_at rest ≡ None

unit_length : (u : BracketUnit) → 0 < length (unit_bytes u)
unit_length escaped = omega arith
unit_length (joined feed) = omega arith
unit_length (joined return_feed) = omega arith
unit_length (single b) = omega arith

unit_then : (text : List ℕ) (u : BracketUnit) (is : IsUnit text u) → IsUnits is.rest → IsUnits text
unit_then text u is more = record {
  units = u ∷ more.units;
  rest = more.rest;
  spelled = is.spelled ∙ ap (λ (t : List ℕ). unit_bytes u ++ t) more.spelled ∙ sym (append_assoc (unit_bytes u) (units_bytes more.units) more.rest);
  stand = and_true _ _ (ap (unit_may_precede u) (sym more.spelled) ∙ is.stand) more.stand;
  ends = more.ends;
}

pub units_of : (fuel : ℕ) (text : List ℕ) → length text ≤ fuel → IsUnits text
units_of zero text le = record { units = []; rest = text; spelled = refl; stand = refl; ends = no_unit text le }
units_of (suc fuel) text le =
    elim (which_unit text) [
      | inl none ↦ record { units = []; rest = text; spelled = refl; stand = refl; ends = none }
      | inr h ↦
          (let shorter : length h.1.rest ≤ fuel = omega (arith, unit_length h.0, ap length h.1.spelled, length-append (unit_bytes h.0) h.1.rest) in
          unit_then text h.0 h.1 (units_of fuel h.1.rest shorter))
    ]

-- ---- runs and comments

pub record IsRun (text : List ℕ) : Type 0 where
  pub run : List ℕ
  pub rest : List ℕ
  pub spelled : text ≡ run ++ rest
  pub on : all_go_on run rest ≡ true
  pub ends : goes_on rest ≡ false

pub run_more : (b : ℕ) (bs : List ℕ) → goes_on (b ∷ bs) ≡ true → IsRun bs → IsRun (b ∷ bs)
run_more b bs on more = record {
  run = b ∷ more.run;
  rest = more.rest;
  spelled = ap (λ (t : List ℕ). b ∷ t) more.spelled;
  on = and_true _ _ (ap (λ (t : List ℕ). goes_on (b ∷ t)) (sym more.spelled) ∙ on) more.on;
  ends = more.ends;
}

run_in : (text : List ℕ) → IsRun text
run_in [] = record { run = []; rest = []; spelled = refl; on = refl; ends = refl }
run_in (b ∷ bs) =
    elim (which (goes_on (b ∷ bs))) [
      | inl y ↦ run_more b bs y (run_in bs)
      | inr n ↦ record { run = []; rest = b ∷ bs; spelled = refl; on = refl; ends = n }
    ]

pub record IsLine (text : List ℕ) : Type 0 where
  pub line : List ℕ
  pub rest : List ℕ
  pub spelled : text ≡ line ++ rest
  pub one : has_byte 10 line ≡ false
  pub ends : at_line_end rest ≡ true

line_in : (text : List ℕ) → IsLine text
line_in [] = record { line = []; rest = []; spelled = refl; one = refl; ends = refl }
line_in (b ∷ bs) =
    elim (which (eqb b 10)) [
      | inl y ↦ record { line = []; rest = b ∷ bs; spelled = refl; one = refl; ends = y }
      | inr n ↦
          (let more = line_in bs in
          record { line = b ∷ more.line; rest = more.rest; spelled = ap (λ (t : List ℕ). b ∷ t) more.spelled; one = rw (n, more.one) refl; ends = more.ends })
    ]

-- ---- pieces

pub record IsPiece (text : List ℕ) (p : Piece) : Type 0 where
  pub rest : List ℕ
  pub spelled : text ≡ piece_bytes p ++ rest
  pub stand : may_precede p rest ≡ true

no_end : (b : ℕ) (bs : List ℕ) → unit_at (b ∷ bs) ≡ None → eqb b 93 ≡ false → eqb b 10 ≡ false → ⊥
no_end b bs e no_close no_newline =
    elim (which_join (join_at (b ∷ bs))) [
      | inr h ↦ (let some : Some (joined h.0) ≡ None = rw h.1 at e in absurd cc)
      | inl none ↦ elim (which (eqb b 92 && begins_with 93 bs)) [
        | inl y ↦ (let some : Some escaped ≡ None = rw (none, y) at e in absurd cc)
        | inr n ↦ (let some : Some (single b) ≡ None = rw (none, n, no_close, no_newline) at e in absurd cc)
      ]
    ]

pub unit_end : (rest : List ℕ) → unit_at rest ≡ None → (at_line_end rest ≡ true) ⊎ ((more : List ℕ) × (rest ≡ 93 ∷ more))
unit_end [] e = inl refl
unit_end (b ∷ bs) e =
    elim (which (eqb b 93)) [
      | inl y ↦ inr (bs, ap (λ (x : ℕ). x ∷ bs) (eqb-true b 93 y))
      | inr no_close ↦ elim (which (eqb b 10)) [
        | inl y ↦ inl y
        | inr no_newline ↦ absurd (no_end b bs e no_close no_newline)
      ]
    ]

a_comment : (b : ℕ) (bs : List ℕ) (l : IsLine bs) → b ≡ 35 → IsPiece (b ∷ bs) (comment l.line)
a_comment b bs l is = record {
  rest = l.rest;
  spelled = ap (λ (x : ℕ). x ∷ bs) is ∙ ap (λ (t : List ℕ). 35 ∷ t) l.spelled;
  stand = and_true _ _ (ap not l.one) l.ends;
}

a_bracket : (b : ℕ) (bs : List ℕ) (us : IsUnits bs) (more : List ℕ) → b ≡ 91 → us.rest ≡ 93 ∷ more → IsPiece (b ∷ bs) (bracket us.units)
a_bracket b bs us more is closed = record {
  rest = more;
  spelled = ap (λ (x : ℕ). x ∷ bs) is ∙ ap (λ (t : List ℕ). 91 ∷ t) (us.spelled ∙ ap (λ (t : List ℕ). units_bytes us.units ++ t) closed ∙ sym (append_assoc (units_bytes us.units) (93 ∷ []) more));
  stand = ap (units_may_precede us.units) (sym closed) ∙ us.stand;
}

an_open_bracket : (b : ℕ) (bs : List ℕ) (us : IsUnits bs) → b ≡ 91 → at_line_end us.rest ≡ true → IsPiece (b ∷ bs) (open_bracket us.units)
an_open_bracket b bs us is end = record {
  rest = us.rest;
  spelled = ap (λ (x : ℕ). x ∷ bs) is ∙ ap (λ (t : List ℕ). 91 ∷ t) us.spelled;
  stand = and_true _ _ us.stand end;
}

a_plain : (b : ℕ) (bs : List ℕ) (r : IsRun bs) → goes_on (b ∷ bs) ≡ true → eqb b 10 ≡ false → eqb b 91 ≡ false → IsPiece (b ∷ bs) (plain (b ∷ r.run))
unfolding run_more
a_plain b bs r on no_newline no_bracket =
    let more = run_more b bs on r in
    record {
      rest = r.rest;
      spelled = more.spelled;
      stand = and_true _ _ (and_true _ _ (and_true _ _ (ap not no_newline) (ap not no_bracket)) more.on) (ap not r.ends);
    }

either_bracket : (b : ℕ) (bs : List ℕ) (us : IsUnits bs) → b ≡ 91 → (p : Piece) × IsPiece (b ∷ bs) p
either_bracket b bs us is =
    elim (unit_end us.rest us.ends) [
      | inl end ↦ (open_bracket us.units, an_open_bracket b bs us is end)
      | inr h ↦ (bracket us.units, a_bracket b bs us h.0 is h.1)
    ]

piece_without : (b : ℕ) (bs : List ℕ) → join_at (b ∷ bs) ≡ None → (p : Piece) × IsPiece (b ∷ bs) p
piece_without b bs none =
    elim (which (eqb b 10)) [
      | inl y ↦ (newline, record { rest = bs; spelled = ap (λ (x : ℕ). x ∷ bs) (eqb-true b 10 y); stand = refl })
      | inr no_newline ↦ elim (which (is_white b)) [
        | inl y ↦ (white b, record { rest = bs; spelled = refl; stand = y })
        | inr no_white ↦ elim (which (eqb b 35)) [
          | inl y ↦ (let l = line_in bs in (comment l.line, a_comment b bs l (eqb-true b 35 y)))
          | inr no_hash ↦ elim (which (eqb b 91)) [
            | inl y ↦ either_bracket b bs (units_of (length bs) bs (omega arith)) (eqb-true b 91 y)
            | inr no_bracket ↦
                (let r = run_in bs in
                (plain (b ∷ r.run), a_plain b bs r (goes_on_by b bs no_white no_hash no_newline none) no_newline no_bracket))
          ]
        ]
      ]
    ]

which_piece : (b : ℕ) (bs : List ℕ) → (p : Piece) × IsPiece (b ∷ bs) p
which_piece b bs =
    elim (which_join (join_at (b ∷ bs))) [
      | inr h ↦ (let is = is_join (b ∷ bs) h.0 h.1 in (join h.0, record { rest = is.rest; spelled = is.spelled; stand = refl }))
      | inl none ↦ piece_without b bs none
    ]

-- ---- readings

pub reads_more : (text : List ℕ) (p : Piece) (is : IsPiece text p) (ps : List Piece) (rest : List ℕ) → Reads is.rest ps rest → Reads text (p ∷ ps) rest
reads_more text p is ps rest r = record {
  spelled = is.spelled ∙ ap (λ (t : List ℕ). piece_bytes p ++ t) r.spelled ∙ sym (append_assoc (piece_bytes p) (spelling ps) rest);
  stand = and_true _ _ (ap (may_precede p) (sym r.spelled) ∙ is.stand) r.stand;
}

piece_length : (p : Piece) (rest : List ℕ) → may_precede p rest ≡ true → 0 < length (piece_bytes p)
piece_length newline rest e = omega arith
piece_length (white b) rest e = omega arith
piece_length (join feed) rest e = omega arith
piece_length (join return_feed) rest e = omega arith
piece_length (plain []) rest e = let no : false ≡ true = e in absurd cc
piece_length (plain (b ∷ bs)) rest e = omega arith
piece_length (bracket us) rest e = omega arith
piece_length (open_bracket us) rest e = omega arith
piece_length (comment text) rest e = omega arith

some_reading : (fuel : ℕ) (text : List ℕ) → length text ≤ fuel → (ps : List Piece) × IsReading text ps
some_reading fuel [] le = ([], record { spelled = refl; stand = refl })
some_reading zero (b ∷ bs) le = absurd (omega arith)
some_reading (suc fuel) (b ∷ bs) le =
    let first = which_piece b bs in
    let shorter : length first.1.rest ≤ fuel = omega (arith, piece_length first.0 first.1.rest first.1.stand, ap length first.1.spelled, length-append (piece_bytes first.0) first.1.rest) in
    let more = some_reading fuel first.1.rest shorter in
    (first.0 ∷ more.0, reads_more (b ∷ bs) first.0 first.1 more.0 [] more.1)

-- the pieces that the plain function gives are the reading of the text
pub reading_is : (text : List ℕ) → IsReading text (pieces_of text)
reading_is text =
    let one = some_reading (length text) text (omega arith) in
    subst (λ (ps : List Piece). IsReading text ps) (sym (one_reading text one.0 one.1)) one.1
