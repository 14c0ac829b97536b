-- What was found so far, put before what is found in the rest.
use Rattle.std.proofs.Common.{◌≡◌, ℕ, zero, suc, ◌<◌, ◌-◌, ◌==◌, Bool, true, false, cond, List, [], ◌∷◌, ◌++◌, length, Option, Some, None, refl, ap, sym, ◌∙◌, append_assoc, arith}
use Rattle.std.proofs.lemmas.List.{append-nil}
use Rattle.mod_env.specs.declared.conf.EnvLine.{EnvLine}
use Rattle.mod_env.specs.declared.conf.Key.{Key}
use Rattle.mod_env.specs.declared.conf.Values.{Values}
use Rattle.mod_env.specs.declared.marks.Mark.{Mark}
use Rattle.mod_env.specs.declared.value.Piece.{Piece}
use Rattle.mod_env.specs.Marks.{after_white}
use Rattle.mod_env.specs.Conf.{counts, entries_of, entry_at, next_setting, values_within, with_value, without_leading_white}
use Rattle.mod_env.specs.Conf.{broken as no_setting, ended as last_setting, one as one_setting, put_before as entry_put_before}
use Rattle.mod_env.specs.Value.{broken, ended, put_before, next_piece, one, pieces_of, pieces_within}

-- ---- pieces

abbrev pub after_pieces : List Piece → Option (List Piece) → Option (List Piece)
after_pieces front (Some more) = Some (front ++ more)
after_pieces front None = None

one_more_piece : (front : List Piece) (piece : Piece) (more : Option (List Piece)) → after_pieces (front ++ piece ∷ []) more ≡ after_pieces front (put_before piece more)
one_more_piece front piece (Some more) = ap (λ (p : List Piece). Some p) (append_assoc front (piece ∷ []) more)
one_more_piece front piece None = refl

pub no_pieces : (more : Option (List Piece)) → after_pieces [] more ≡ more
no_pieces (Some more) = refl
no_pieces None = refl

only : (front : List Piece) → Some front ≡ Some (front ++ [])
only front = ap (λ (p : List Piece). Some p) (sym (append-nil front))

pub piece_taken : (left next : ℕ) (front : List Piece) (piece : Piece) (value rest : List Mark) (total : Option (List Piece)) → 0 < left → next ≡ left - 1 → next_piece value ≡ one piece rest
    → after_pieces front (pieces_within left value) ≡ total → after_pieces (front ++ piece ∷ []) (pieces_within next rest) ≡ total
piece_taken zero next front piece value rest total some is e h = absurd (omega (arith, some))
piece_taken (suc n) next front piece value rest total some is e h = let same : next ≡ n = omega arith in rw same (one_more_piece front piece (pieces_within n rest) ∙ (rw e at h))

pub pieces_end : (left : ℕ) (front : List Piece) (value : List Mark) (total : Option (List Piece)) → 0 < left → next_piece value ≡ ended → after_pieces front (pieces_within left value) ≡ total → Some front ≡ total
pieces_end zero front value total some e h = absurd (omega (arith, some))
pieces_end (suc n) front value total some e h = only front ∙ (rw e at h)

pub pieces_break : (left : ℕ) (front : List Piece) (value : List Mark) (total : Option (List Piece)) → 0 < left → next_piece value ≡ broken → after_pieces front (pieces_within left value) ≡ total → None ≡ total
pieces_break zero front value total some e h = absurd (omega (arith, some))
pieces_break (suc n) front value total some e h = rw e at h

pub pieces_out : (left : ℕ) (front : List Piece) (value : List Mark) (total : Option (List Piece)) (empty : Bool) → left ≡ 0 → empty ≡ (length value == 0) → after_pieces front (pieces_within left value) ≡ total
    → cond empty (Some front) None ≡ total
pieces_out left front value total true is e h = only front ∙ (rw (is, ← e) at h)
pieces_out left front value total false is e h = rw (is, ← e) at h

-- ---- settings

pub setting_taken : (left next : ℕ) (values : Values) (key : Key) (pieces : List Piece) (marks value rest : List Mark) (total : Option Values) → 0 < left → next ≡ left - 1 → next_setting marks ≡ one_setting key value rest
    → pieces_of value ≡ Some pieces → values_within left values marks ≡ total → values_within next (with_value key pieces values) rest ≡ total
setting_taken zero next values key pieces marks value rest total some is e f h = absurd (omega (arith, some))
setting_taken (suc n) next values key pieces marks value rest total some is e f h = let same : next ≡ n = omega arith in rw same (rw (e, f) at h)

pub value_breaks : (left : ℕ) (values : Values) (key : Key) (marks value rest : List Mark) (total : Option Values) → 0 < left → next_setting marks ≡ one_setting key value rest
    → pieces_of value ≡ None → values_within left values marks ≡ total → None ≡ total
value_breaks zero values key marks value rest total some e f h = absurd (omega (arith, some))
value_breaks (suc n) values key marks value rest total some e f h = rw (e, f) at h

pub settings_end : (left : ℕ) (values : Values) (marks : List Mark) (total : Option Values) → 0 < left → next_setting marks ≡ last_setting → values_within left values marks ≡ total → Some values ≡ total
settings_end zero values marks total some e h = absurd (omega (arith, some))
settings_end (suc n) values marks total some e h = rw e at h

pub settings_break : (left : ℕ) (values : Values) (marks : List Mark) (total : Option Values) → 0 < left → next_setting marks ≡ no_setting → values_within left values marks ≡ total → None ≡ total
settings_break zero values marks total some e h = absurd (omega (arith, some))
settings_break (suc n) values marks total some e h = rw e at h

pub settings_out : (left : ℕ) (values : Values) (marks : List Mark) (total : Option Values) (empty : Bool) → left ≡ 0 → empty ≡ (length (after_white marks) == 0) → values_within left values marks ≡ total
    → cond empty (Some values) None ≡ total
settings_out left values marks total true is e h = rw (is, ← e) at h
settings_out left values marks total false is e h = rw (is, ← e) at h

-- ---- lines

abbrev pub after_entries : List EnvLine → Option (List EnvLine) → Option (List EnvLine)
after_entries front (Some more) = Some (front ++ more)
after_entries front None = None

one_more_entry : (front : List EnvLine) (entry : EnvLine) (more : Option (List EnvLine)) → after_entries (front ++ entry ∷ []) more ≡ after_entries front (entry_put_before (Some entry) more)
one_more_entry front entry (Some more) = ap (λ (p : List EnvLine). Some p) (append_assoc front (entry ∷ []) more)
one_more_entry front entry None = refl

pub no_entries : (more : Option (List EnvLine)) → after_entries [] more ≡ more
no_entries (Some more) = refl
no_entries None = refl

module _ (front : List EnvLine) (line : List ℕ) (lines rest : List (List ℕ)) (total : Option (List EnvLine)) (is : lines ≡ line ∷ rest) (h : after_entries front (entries_of lines) ≡ total) where
  pub line_passed : false ≡ counts (without_leading_white line) → after_entries front (entries_of rest) ≡ total
  line_passed e = rw (is, ← e) at h

  pub line_taken : (entry : EnvLine) → true ≡ counts (without_leading_white line) → Some entry ≡ entry_at (without_leading_white line) → after_entries (front ++ entry ∷ []) (entries_of rest) ≡ total
  line_taken entry e f = one_more_entry front entry (entries_of rest) ∙ (rw (is, ← e, ← f) at h)

  no_front : (more : Option (List EnvLine)) → after_entries front (entry_put_before None more) ≡ None
  no_front (Some more) = refl
  no_front None = refl

  pub line_broken : true ≡ counts (without_leading_white line) → None ≡ entry_at (without_leading_white line) → None ≡ total
  line_broken e f = sym (no_front (entries_of rest)) ∙ (rw (is, ← e, ← f) at h)

pub lines_out : (front : List EnvLine) (lines : List (List ℕ)) (total : Option (List EnvLine)) → lines ≡ [] → after_entries front (entries_of lines) ≡ total → Some front ≡ total
lines_out front lines total is h = ap (λ (p : List EnvLine). Some p) (sym (append-nil front)) ∙ (rw is at h)
