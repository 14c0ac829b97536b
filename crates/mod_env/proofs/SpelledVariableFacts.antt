-- Each text is read as the variables that it spells.
use Rattle.std.proofs.Common.{◌≡◌, ℕ, zero, suc, ◌+◌, ◌<◌, ◌≤◌, Bool, true, false, ◌==◌, ◌||◌, ◌&&◌, ◌⊎◌, inl, inr, List, [], ◌∷◌, ◌++◌, length, drop, Some, None, refl, sym, ap, ◌∙◌, arith, position, length-append}
use Rattle.std.proofs.Math.Seq.{drop-append_seam, take-append_seam, take-length}
use Rattle.std.proofs.Math.ListN.{drop_of_length-le}
use Rattle.std.proofs.lemmas.List.{append-nil}
use Rattle.std.proofs.lemmas.Bool.Decides.{nat_tests}
use Rattle.std.specs.List.{after_first, before_first, list_all, list_any, position_or_len}
use Rattle.pam_base.specs.Bytes.{has_byte}
use Rattle.pam_base.specs.Lines.{lines_of}
use Rattle.pam_base.specs.White.{is_white}
use Rattle.mod_env.specs.declared.marks.Mark.{Mark}
use Rattle.mod_env.specs.declared.marks.Mark.TheVariants as marks
use Rattle.mod_env.specs.declared.value.Piece.{Piece}
use Rattle.mod_env.specs.declared.value.Piece.TheVariants.{Byte, Variable, Item}
use Rattle.mod_env.specs.declared.conf.Key.{Key}
use Rattle.mod_env.specs.declared.conf.Key.TheVariants.{Default, Override}
use Rattle.mod_env.specs.declared.conf.Values.{Values}
use Rattle.mod_env.specs.declared.conf.EnvLine.{EnvLine}
use Rattle.mod_env.specs.Marks.{begins_with, after_white, is_byte, is_white_mark, marks_of, text_of}
use Rattle.mod_env.specs.Value.{is_sigil, next_piece, one, pieces_of, pieces_within, place}
use Rattle.mod_env.specs.Conf as conf
use Rattle.mod_env.specs.Conf.{values_of}
use Rattle.mod_env.specs.Spelling.{Follows, Given, IsPassedOver, SpellsConf, SpellsEntry, SpellsLines, SpellsPiece, SpellsPlace, SpellsQuoted, SpellsSetting, SpellsSettings, SpellsValue, SpellsWord, is_end, opens, quotes, values_after, word_of}

-- ---- the first place

module _ {A : Type 0} (p : A → Bool) where
  or_false : (a b : Bool) → (a || b) ≡ false → (a ≡ false) × (b ≡ false)
  or_false true b e = absurd cc
  or_false false b e = (refl, e)

  first_after : (xs : List A) (y : A) (ys : List A) → list_any p xs ≡ false → p y ≡ true → position_or_len p (xs ++ y ∷ ys) ≡ length xs
  first_after [] y ys none here = rw here refl
  first_after (x ∷ xs) y ys none here =
      let parts = or_false (p x) (list_any p xs) none in
      rw (parts.0, first_after xs y ys parts.1 here) (omega arith)

  pub place_after : (xs : List A) (y : A) (ys : List A) → list_any p xs ≡ false → p y ≡ true → position p (xs ++ y ∷ ys) ≡ Some (length xs)
  place_after xs y ys none here =
      let at = first_after xs y ys none here in
      let long = length-append xs (y ∷ ys) in
      grind (arith, nat_tests)

  pub none_before : (xs : List A) → list_any p xs ≡ false → position_or_len p xs ≡ length xs
  none_before [] none = refl
  none_before (x ∷ xs) none =
      let parts = or_false (p x) (list_any p xs) none in
      rw (parts.0, none_before xs parts.1) (omega arith)

  pub no_place : (xs : List A) → list_any p xs ≡ false → position p xs ≡ None
  no_place xs none = let at = none_before xs none in grind (arith, nat_tests)

-- ---- values

and_true : (b : Bool) → (b && true) ≡ b
and_true true = refl
and_true false = refl

pub opened : (ms : List Mark) → begins_with (123 ∷ []) ms ≡ opens ms
opened [] = refl
opened (m ∷ ms) = and_true (is_byte 123 m)

pub quoted : (ms : List Mark) → begins_with (34 ∷ []) ms ≡ quotes ms
quoted [] = refl
quoted (m ∷ ms) = and_true (is_byte 34 m)

after_seam : {A : Type 0} (inner : List A) (m : A) (followed : List A) → drop (length inner + 1) (inner ++ m ∷ followed) ≡ followed
after_seam [] m followed = refl
after_seam (x ∷ inner) m followed = let e : suc (length inner) + 1 ≡ suc (length inner + 1) = omega arith in rw e (after_seam inner m followed)

by_place : (sigil : ℕ) (inner followed : List Mark) → is_sigil sigil ≡ true → list_any (is_byte 125) inner ≡ false
    → next_piece (marks.Byte sigil ∷ marks.Byte 123 ∷ (inner ++ marks.Byte 125 ∷ followed)) ≡ one (place sigil (text_of inner)) followed
by_place sigil inner followed is none =
    rw (is, place_after (is_byte 125) inner (marks.Byte 125) followed none refl)
    (rw (take-append_seam inner (marks.Byte 125 ∷ followed), after_seam inner (marks.Byte 125) followed) refl)

place_is_read : (sigil : ℕ) (name : List ℕ) (text followed : List Mark) → is_sigil sigil ≡ true → SpellsPlace sigil name text followed
    → next_piece text ≡ one (place sigil name) followed
place_is_read sigil name text followed is s =
    ap next_piece s.text_is ∙ by_place sigil s.inner followed is s.is_open ∙ ap (λ (n : List ℕ). one (place sigil n) followed) (sym s.name_is)

pub piece_is_read : (piece : Piece) (text followed : List Mark) → SpellsPiece piece text followed → next_piece text ≡ one piece followed
piece_is_read (Byte b) text followed (inl e) = rw e refl
piece_is_read (Byte b) text followed (inr e) = rw (e.0, opened followed, e.1) refl
piece_is_read (Variable name) text followed s = place_is_read 36 name text followed refl s
piece_is_read (Item name) text followed s = place_is_read 64 name text followed refl s

place_is_longer : (sigil : ℕ) (name : List ℕ) (text followed : List Mark) → SpellsPlace sigil name text followed → length followed < length text
place_is_longer sigil name text followed s = omega (arith, ap length s.text_is, length-append s.inner (marks.Byte 125 ∷ followed))

is_longer : (piece : Piece) (text followed : List Mark) → SpellsPiece piece text followed → length followed < length text
is_longer (Byte b) text followed (inl e) = omega (arith, ap length e)
is_longer (Byte b) text followed (inr e) = omega (arith, ap length e.0)
is_longer (Variable name) text followed s = place_is_longer 36 name text followed s
is_longer (Item name) text followed s = place_is_longer 64 name text followed s

value_within : (n : ℕ) (value : List Piece) (text : List Mark) → length text ≤ n → SpellsValue value text → pieces_within n text ≡ Some value
value_within zero [] text few s = let none : text ≡ [] = s in rw none refl
value_within zero (piece ∷ more) text few s = let longer = is_longer piece text s.0 s.1 in absurd (omega arith)
value_within (suc n) [] text few s = let none : text ≡ [] = s in rw none refl
value_within (suc n) (piece ∷ more) text few s =
    let longer = is_longer piece text s.0 s.1 in
    rw (piece_is_read piece text s.0 s.1, value_within n more s.0 (omega arith) s.2) refl

pub value_is_read : (value : List Piece) (text : List Mark) → SpellsValue value text → pieces_of text ≡ Some value
unfolding pieces_of
value_is_read value text s = value_within (length text) value text (omega arith) s

-- ---- settings

pub both : (a b : Bool) → (a && b) ≡ true → (a ≡ true) × (b ≡ true)
both true b e = (refl, e)
both false b e = absurd cc

white_skipped : (white rest : List Mark) → list_all is_white_mark white ≡ true → after_white (white ++ rest) ≡ after_white rest
white_skipped [] rest blank = refl
white_skipped (m ∷ ms) rest blank = let parts = both (is_white_mark m) (list_all is_white_mark ms) blank in rw parts.0 (white_skipped ms rest parts.1)

all_white : (text : List Mark) → list_all is_white_mark text ≡ true → after_white text ≡ []
all_white [] blank = refl
all_white (m ∷ ms) blank = let parts = both (is_white_mark m) (list_all is_white_mark ms) blank in rw parts.0 (all_white ms parts.1)

pub some_marks : (m : Mark) (ms : List Mark) → (length (m ∷ ms) == 0) ≡ false
some_marks m ms = grind (arith, nat_tests)

at_word : (key : Key) (text : List Mark) → conf.next_setting (word_of key ++ text) ≡ conf.at_value key text
at_word Default text = rw (some_marks (marks.Byte 68)) refl
at_word Override text = rw (some_marks (marks.Byte 79)) refl

ended_by : (followed : List Mark) → is_end followed ≡ true → conf.ends_word followed ≡ true
ended_by [] e = refl
ended_by (m ∷ ms) e = e

-- a value's marks, with which what follows the key begins
pub record Found (key : Key) (value : List Piece) (text followed : List Mark) : Type 0 where
  pub inner : List Mark
  pub found : conf.at_value key text ≡ conf.one key inner followed
  pub spelled : SpellsValue value inner

by_quote : (key : Key) (inner followed : List Mark) → list_any (is_byte 34) inner ≡ false → is_end followed ≡ true
    → conf.at_value key (marks.Byte 34 ∷ (inner ++ marks.Byte 34 ∷ followed)) ≡ conf.one key inner followed
by_quote key inner followed none ends =
    rw (place_after (is_byte 34) inner (marks.Byte 34) followed none refl)
    (rw (after_seam inner (marks.Byte 34) followed, ended_by followed ends, take-append_seam inner (marks.Byte 34 ∷ followed)) refl)

quoted_is_read : (key : Key) (value : List Piece) (text followed : List Mark) → SpellsQuoted value text followed → is_end followed ≡ true
    → Found key value text followed
quoted_is_read key value text followed s ends = record {
  inner = s.inner;
  found = ap (conf.at_value key) s.text_is ∙ by_quote key s.inner followed s.is_open ends;
  spelled = s.spelled;
}

by_end : (key : Key) (inner followed : List Mark) → list_any is_white_mark inner ≡ false → is_end followed ≡ true
    → conf.unquoted key (inner ++ followed) (position is_white_mark (inner ++ followed)) ≡ conf.one key inner followed
by_end key inner [] none ends = rw (append-nil inner, no_place is_white_mark inner none) refl
by_end key inner (m ∷ ms) none ends =
    rw (place_after is_white_mark inner m ms none ends, take-append_seam inner (m ∷ ms), drop-append_seam inner (m ∷ ms)) refl

word_is_read : (key : Key) (value : List Piece) (text followed : List Mark) → SpellsWord value text followed → is_end followed ≡ true
    → Found key value text followed
word_is_read key value text followed s ends =
    let plain : begins_with (34 ∷ []) text ≡ false = quoted text ∙ s.unquoted in
    record {
      inner = s.inner;
      found = rw plain (ap (λ (t : List Mark). conf.unquoted key t (position is_white_mark t)) s.text_is ∙ by_end key s.inner followed s.unbroken ends);
      spelled = s.spelled;
    }

found_value : (key : Key) (value : List Piece) (text followed : List Mark) → SpellsQuoted value text followed ⊎ SpellsWord value text followed → is_end followed ≡ true
    → Found key value text followed
found_value key value text followed (inl s) ends = quoted_is_read key value text followed s ends
found_value key value text followed (inr s) ends = word_is_read key value text followed s ends

module _ (key : Key) (value : List Piece) (text followed : List Mark) (s : SpellsSetting key value text followed) where
  in_text : Found key value s.at followed
  in_text = found_value key value s.at followed s.spelled s.ends

  setting_is_read : conf.next_setting text ≡ conf.one key in_text.inner followed
  setting_is_read =
      ap conf.next_setting s.text_is ∙ ap conf.at_key (white_skipped s.white (word_of key ++ s.at) s.is_blank)
      ∙ at_word key s.at ∙ in_text.found

-- a value is no longer than the text that it begins
module _ (value : List Piece) (text followed : List Mark) where
  no_longer : SpellsQuoted value text followed ⊎ SpellsWord value text followed → length followed ≤ length text
  no_longer (inl s) = omega (arith, ap length s.text_is, length-append s.inner (marks.Byte 34 ∷ followed))
  no_longer (inr s) = omega (arith, ap length s.text_is, length-append s.inner followed)

word_is_some : (key : Key) → 0 < length (word_of key)
word_is_some Default = omega arith
word_is_some Override = omega arith

setting_is_longer : (key : Key) (value : List Piece) (text followed : List Mark) → SpellsSetting key value text followed → length followed < length text
setting_is_longer key value text followed s =
    let white = length-append s.white (word_of key ++ s.at) in
    let word = length-append (word_of key) s.at in
    omega (arith, ap length s.text_is, white, word, word_is_some key, no_longer value s.at followed s.spelled)

settings_within : (n : ℕ) (given : List Given) (values : Values) (text : List Mark) → length text ≤ n → SpellsSettings given text
    → conf.values_within n values text ≡ Some (values_after given values)
settings_within zero [] values text few s = rw (all_white text s) refl
settings_within zero (given ∷ more) values text few s = let longer = setting_is_longer given.key given.value text s.0 s.1 in absurd (omega arith)
settings_within (suc n) [] values text few s = rw (all_white text s) refl
settings_within (suc n) (given ∷ more) values text few s =
    let longer = setting_is_longer given.key given.value text s.0 s.1 in
    let found = in_text given.key given.value text s.0 s.1 in
    rw (setting_is_read given.key given.value text s.0 s.1, value_is_read given.value found.inner found.spelled)
    (settings_within n more (conf.with_value given.key given.value values) s.0 (omega arith) s.2)

pub settings_are_read : (given : List Given) (text : List Mark) → SpellsSettings given text → values_of text ≡ Some (values_after given conf.no_values)
unfolding values_of
settings_are_read given text s = settings_within (length text) given conf.no_values text (omega arith) s

-- ---- lines

front_skipped : (white rest : List ℕ) → list_all is_white white ≡ true → conf.without_leading_white (white ++ rest) ≡ conf.without_leading_white rest
front_skipped [] rest blank = refl
front_skipped (b ∷ bs) rest blank = let parts = both (is_white b) (list_all is_white bs) blank in rw parts.0 (front_skipped bs rest parts.1)

name_is_read : (name tail settings : List ℕ) → list_any is_white name ≡ false → Follows tail settings
    → (before_first is_white (name ++ tail) ≡ name) × (after_first is_white (name ++ tail) ≡ settings)
name_is_read name tail settings none (inl e) =
    rw (e.0, e.1, append-nil name, none_before is_white name none) (take-length name, drop_of_length-le name (omega arith))
name_is_read name tail settings none (inr f) =
    rw (f.1, first_after is_white name f.0 settings none f.2) (take-append_seam name (f.0 ∷ settings), after_seam name f.0 settings)

stops : (b : ℕ) (bs : List ℕ) → is_white b ≡ false → conf.without_leading_white (b ∷ bs) ≡ b ∷ bs
stops b bs e = rw e refl

counted : (b : ℕ) (bs : List ℕ) → (b == 35) ≡ false → conf.counts (b ∷ bs) ≡ true
counted b bs e = rw e refl

entry_by : (text name settings : List ℕ) (values : Values) → before_first is_white text ≡ name → after_first is_white text ≡ settings
    → has_byte 61 name ≡ false → values_of (marks_of settings) ≡ Some values → conf.entry_at text ≡ Some (record { name = name; values = values })
entry_by text name settings values named followed none read = rw (named, followed, none, read) refl

module _ (entry : EnvLine) (line : List ℕ) (s : SpellsEntry entry line) where
  named :
      (before_first is_white (s.first ∷ s.others ++ s.tail) ≡ s.first ∷ s.others)
      × (after_first is_white (s.first ∷ s.others ++ s.tail) ≡ s.settings)
  named = name_is_read (s.first ∷ s.others) s.tail s.settings s.unbroken s.follows

  front : conf.without_leading_white line ≡ s.first ∷ s.others ++ s.tail
  front =
      ap conf.without_leading_white s.line_is ∙ front_skipped s.white (s.first ∷ s.others ++ s.tail) s.is_blank
      ∙ stops s.first (s.others ++ s.tail) (or_false is_white (is_white s.first) (list_any is_white s.others) s.unbroken).0

  it_counts : conf.counts (conf.without_leading_white line) ≡ true
  it_counts = ap conf.counts front ∙ counted s.first (s.others ++ s.tail) s.uncommented

  entry_is_read : conf.entry_at (conf.without_leading_white line) ≡ Some entry
  entry_is_read =
      ap conf.entry_at front
      ∙ entry_by (s.first ∷ s.others ++ s.tail) (s.first ∷ s.others) s.settings (values_after s.given conf.no_values) named.0 named.1 s.unassigned
      (settings_are_read s.given (marks_of s.settings) s.spelled)
      ∙ ap (λ (e : EnvLine). Some e) (sym s.entry_is)

by_comment : (comment : List ℕ) → (comment ≡ []) ⊎ ((more : List ℕ) × (comment ≡ 35 ∷ more)) → conf.counts (conf.without_leading_white comment) ≡ false
by_comment comment (inl e) = rw e refl
by_comment comment (inr e) = rw e.1 refl

is_passed : (line : List ℕ) → IsPassedOver line → conf.counts (conf.without_leading_white line) ≡ false
is_passed line s =
    ap (λ (l : List ℕ). conf.counts (conf.without_leading_white l)) s.line_is ∙ ap conf.counts (front_skipped s.white s.comment s.is_blank)
    ∙ by_comment s.comment s.is_comment

pub lines_are_read : (entries : List EnvLine) (lines : List (List ℕ)) → SpellsLines entries lines → conf.entries_of lines ≡ Some entries
lines_are_read entries [] s = rw s refl
lines_are_read entries (line ∷ lines) (inl s) = rw (is_passed line s.0) (lines_are_read entries lines s.1)
lines_are_read entries (line ∷ lines) (inr s) = rw (s.2, it_counts s.0 line s.3, entry_is_read s.0 line s.3, lines_are_read s.1 lines s.4) refl

pub conf_is_read : (entries : List EnvLine) (text : List ℕ) → SpellsConf entries text → conf.conf_of text ≡ Some entries
conf_is_read entries text s = lines_are_read entries (lines_of text) s

pub conf_is_one : (entries others : List EnvLine) (text : List ℕ) → SpellsConf entries text → SpellsConf others text → entries ≡ others
conf_is_one entries others text s t = let e = conf_is_read entries text s in let f = conf_is_read others text t in cc
