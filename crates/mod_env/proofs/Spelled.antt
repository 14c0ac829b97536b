-- Each text that is read spells the variables as which it is read.
use Rattle.std.proofs.Common.{◌≡◌, ℕ, zero, suc, ◌+◌, ◌<◌, ◌≤◌, Bool, true, false, ◌==◌, ◌&&◌, cond, ◌⊎◌, inl, inr, List, [], ◌∷◌, ◌++◌, length, drop, take, map, codes, Option, Some, None, refl, sym, ap, ◌∙◌, arith, add-one, one-add, subst, position}
use Rattle.std.proofs.Math.Seq.{take-length}
use Rattle.std.proofs.Math.ListN.{drop_of_length-le}
use Rattle.std.proofs.lemmas.List.{append-nil}
use Rattle.std.proofs.lemmas.Bool.Decides.{nat_tests}
use Rattle.std.specs.List.{after_first, before_first, list_all, list_any, position_or_len}
use Rattle.pam_base.specs.Bytes.{has_byte}
use Rattle.pam_base.specs.Lines.{lines_of}
use Rattle.pam_base.specs.White.{is_white}
use Rattle.mod_env.specs.declared.marks.Mark.{Mark}
use Rattle.mod_env.specs.declared.marks.Mark.TheVariants as marks
use Rattle.mod_env.specs.declared.value.Piece.{Piece}
use Rattle.mod_env.specs.declared.value.Piece.TheVariants.{Byte}
use Rattle.mod_env.specs.declared.conf.Key.{Key}
use Rattle.mod_env.specs.declared.conf.Key.TheVariants.{Default, Override}
use Rattle.mod_env.specs.declared.conf.Values.{Values}
use Rattle.mod_env.specs.declared.conf.EnvLine.{EnvLine}
use Rattle.mod_env.specs.Marks.{begins_with, after_white, is_byte, is_white_mark, marks_of, text_of}
use Rattle.mod_env.specs.Value.{Next, broken, pieces_from_next, closed, ended, put_before, is_sigil, next_piece, one, pieces_of, pieces_within}
use Rattle.mod_env.specs.Conf as conf
use Rattle.mod_env.specs.Conf.{values_of}
use Rattle.mod_env.specs.Spelling.{Follows, Given, IsPassedOver, SpellsConf, SpellsEntry, SpellsLines, SpellsPiece, SpellsPlace, SpellsQuoted, SpellsSetting, SpellsSettings, SpellsValue, SpellsWord, is_end, opens, quotes, values_after, word_of}
use Rattle.mod_env.proofs.SpelledVariableFacts.{both, none_before, opened, quoted, some_marks}

-- ---- the first place

-- what comes before a position, at it and after it
pub record FoundAt {A : Type 0} (p : A → Bool) (xs : List A) (n : ℕ) : Type 0 where
  pub at : A
  pub is : xs ≡ take n xs ++ at ∷ drop (suc n) xs
  pub rest : drop n xs ≡ at ∷ drop (suc n) xs
  pub none : list_any p (take n xs) ≡ false
  pub passes : p at ≡ true

module _ {A : Type 0} (p : A → Bool) where
  found_after : (x : A) (xs : List A) → ((m : ℕ) → position_or_len p xs ≡ m → m < length xs → FoundAt p xs m)
      → (b : Bool) (n : ℕ) → p x ≡ b → position_or_len p (x ∷ xs) ≡ n → n < length (x ∷ xs) → FoundAt p (x ∷ xs) n
  found_after x xs more true zero e is few = record { at = x; is = refl; rest = refl; none = refl; passes = e }
  found_after x xs more true (suc n) e is few = let at : 0 ≡ suc n = rw e at is in absurd (omega arith)
  found_after x xs more false zero e is few = let at : 1 + position_or_len p xs ≡ 0 = rw e at is in absurd (omega arith)
  found_after x xs more false (suc n) e is few =
      let at : 1 + position_or_len p xs ≡ suc n = rw e at is in
      let m = more n (omega arith) (omega (arith, few)) in
      record { at = m.at; is = ap (λ (t : List A). x ∷ t) m.is; rest = m.rest; none = rw e m.none; passes = m.passes }

  first_found : (xs : List A) (n : ℕ) → position_or_len p xs ≡ n → n < length xs → FoundAt p xs n
  first_found [] n is few = absurd (omega (arith, few))
  first_found (x ∷ xs) n is few = found_after x xs (first_found xs) (p x) n refl is few

  pub found_at : (xs : List A) (n : ℕ) → position p xs ≡ Some n → FoundAt p xs n
  found_at xs n e =
      let at : position_or_len p xs ≡ n = grind (arith, nat_tests) in
      let few : position_or_len p xs < length xs = grind (arith, nat_tests) in
      first_found xs n at (omega arith)

  none_past : (x : A) (xs : List A) → (length xs ≤ position_or_len p xs → list_any p xs ≡ false)
      → (b : Bool) → p x ≡ b → length (x ∷ xs) ≤ position_or_len p (x ∷ xs) → list_any p (x ∷ xs) ≡ false
  none_past x xs more true e few = let at : length (x ∷ xs) ≤ 0 = rw e at few in absurd (omega (arith, at))
  none_past x xs more false e few = let at : length (x ∷ xs) ≤ 1 + position_or_len p xs = rw e at few in rw e (more (omega (arith, at)))

  pub none_in : (xs : List A) → length xs ≤ position_or_len p xs → list_any p xs ≡ false
  none_in [] few = refl
  none_in (x ∷ xs) few = none_past x xs (none_in xs) (p x) refl few

  pub none_at : (xs : List A) → position p xs ≡ None → list_any p xs ≡ false
  none_at xs e = let few : length xs ≤ position_or_len p xs = grind (arith, nat_tests) in none_in xs few

-- ---- values

is_that : (wanted : ℕ) (m : Mark) → is_byte wanted m ≡ true → m ≡ marks.Byte wanted
is_that wanted (marks.Byte b) e = let same : b ≡ wanted = grind (arith, nat_tests) in ap (λ (n : ℕ). marks.Byte n) same
is_that wanted (marks.Plain b) e = absurd cc
is_that wanted marks.Stray e = absurd cc

opened_by : (ms : List Mark) → opens ms ≡ true → ms ≡ marks.Byte 123 ∷ drop 1 ms
opened_by [] e = absurd cc
opened_by (m ∷ ms) e = ap (λ (n : Mark). n ∷ ms) (is_that 123 m e)

sigil_is : (b : ℕ) → is_sigil b ≡ true → (b ≡ 36) ⊎ (b ≡ 64)
sigil_is b e = grind (arith, nat_tests)

-- how a value begins spells the piece that is read
abbrev pub SpellsNext : Next → List Mark → Type 0
SpellsNext ended text = text ≡ []
SpellsNext broken text = Unit {0}
SpellsNext (one piece rest) text = SpellsPiece piece text rest

place_found : (sigil : ℕ) (more : List Mark) (n : ℕ) → FoundAt (is_byte 125) more n
    → SpellsPlace sigil (text_of (take n more)) (marks.Byte sigil ∷ marks.Byte 123 ∷ more) (drop (n + 1) more)
place_found sigil more n f =
    let is : more ≡ take n more ++ marks.Byte 125 ∷ drop (suc n) more =
    f.is ∙ ap (λ (m : Mark). take n more ++ m ∷ drop (suc n) more) (is_that 125 f.at f.passes) in
    record {
      inner = take n more;
      text_is = rw add-one (ap (λ (t : List Mark). marks.Byte sigil ∷ marks.Byte 123 ∷ t) is);
      is_open = f.none;
      name_is = refl;
    }

place_spelled : (b : ℕ) (more : List Mark) (n : ℕ) → (b ≡ 36) ⊎ (b ≡ 64) → position (is_byte 125) more ≡ Some n
    → SpellsNext (closed b more (Some n)) (marks.Byte b ∷ marks.Byte 123 ∷ more)
place_spelled b more n (inl e) at = rw e (place_found 36 more n (found_at (is_byte 125) more n at))
place_spelled b more n (inr e) at = rw e (place_found 64 more n (found_at (is_byte 125) more n at))

closed_spelled : (b : ℕ) (more : List Mark) (found : Option ℕ) → is_sigil b ≡ true → position (is_byte 125) more ≡ found
    → SpellsNext (closed b more found) (marks.Byte b ∷ marks.Byte 123 ∷ more)
closed_spelled b more (Some n) is at = place_spelled b more n (sigil_is b is) at
closed_spelled b more None is at = tt

byte_spelled : (b : ℕ) (rest : List Mark) (is : Bool) → (is_sigil b && begins_with (123 ∷ []) rest) ≡ is
    → SpellsNext (cond is (closed b (drop 1 rest) (position (is_byte 125) (drop 1 rest))) (one (Byte b) rest)) (marks.Byte b ∷ rest)
byte_spelled b rest true e =
    let parts = both (is_sigil b) (begins_with (123 ∷ []) rest) e in
    let is = opened_by rest (sym (opened rest) ∙ parts.1) in
    let spelled = closed_spelled b (drop 1 rest) (position (is_byte 125) (drop 1 rest)) parts.0 refl in
    subst (λ (t : List Mark). SpellsNext (closed b (drop 1 rest) (position (is_byte 125) (drop 1 rest))) (marks.Byte b ∷ t)) (sym is) spelled
byte_spelled b rest false e = inr (refl, ap (λ (o : Bool). is_sigil b && o) (sym (opened rest)) ∙ e)

next_spelled : (text : List Mark) → SpellsNext (next_piece text) text
next_spelled [] = refl
next_spelled (marks.Plain b ∷ rest) = inl refl
next_spelled (marks.Stray ∷ rest) = tt
next_spelled (marks.Byte b ∷ rest) = byte_spelled b rest (is_sigil b && begins_with (123 ∷ []) rest) refl

-- a value that is read is spelled
abbrev pub SpellsRead : Option (List Piece) → List Mark → Type 0
SpellsRead None text = Unit {0}
SpellsRead (Some value) text = SpellsValue value text

piece_before : (piece : Piece) (text rest : List Mark) → SpellsPiece piece text rest → (more : Option (List Piece)) → SpellsRead more rest
    → SpellsRead (put_before piece more) text
piece_before piece text rest s None t = tt
piece_before piece text rest s (Some value) t = (rest, s, t)

by_next_spelled : (more : List Mark → Option (List Piece)) (text : List Mark) → ((rest : List Mark) → SpellsRead (more rest) rest)
    → (found : Next) → SpellsNext found text → SpellsRead (pieces_from_next more found) text
by_next_spelled more text spelled ended s = s
by_next_spelled more text spelled broken s = tt
by_next_spelled more text spelled (one piece rest) s = piece_before piece text rest s (more rest) (spelled rest)

pieces_spelled : (n : ℕ) (text : List Mark) → SpellsRead (pieces_within n text) text
pieces_spelled zero [] = refl
pieces_spelled zero (m ∷ ms) = rw (some_marks m ms) tt
pieces_spelled (suc n) text = by_next_spelled (pieces_within n) text (pieces_spelled n) (next_piece text) (next_spelled text)

pub value_is_spelled : (text : List Mark) → SpellsRead (pieces_of text) text
unfolding pieces_of
value_is_spelled text = pieces_spelled (length text) text

-- ---- settings

-- a setting, except what its value's marks spell
pub record Sets (key : Key) (inner text followed : List Mark) : Type 0 where
  pub white : List Mark
  pub at : List Mark
  pub text_is : text ≡ white ++ (word_of key ++ at)
  pub is_blank : list_all is_white_mark white ≡ true
  pub form : (value : List Piece) → SpellsValue value inner → SpellsQuoted value at followed ⊎ SpellsWord value at followed
  pub ends : is_end followed ≡ true

abbrev pub SetsNext : conf.Setting → List Mark → Type 0
SetsNext conf.ended text = list_all is_white_mark text ≡ true
SetsNext conf.broken text = Unit {0}
SetsNext (conf.one key inner followed) text = Sets key inner text followed

ends_as : (followed : List Mark) → conf.ends_word followed ≡ is_end followed
ends_as [] = refl
ends_as (m ∷ ms) = refl

quoted_by : (ms : List Mark) → quotes ms ≡ true → ms ≡ marks.Byte 34 ∷ drop 1 ms
quoted_by [] e = absurd cc
quoted_by (m ∷ ms) e = ap (λ (n : Mark). n ∷ ms) (is_that 34 m e)

white_ends : (followed : List Mark) (m : Mark) (ms : List Mark) → followed ≡ m ∷ ms → is_white_mark m ≡ true → is_end followed ≡ true
white_ends followed m ms is e = rw is e

module _ (key : Key) (white at text : List Mark) (is : text ≡ white ++ (word_of key ++ at)) (blank : list_all is_white_mark white ≡ true) where
  in_quotes : (n : ℕ) → at ≡ marks.Byte 34 ∷ drop 1 at → FoundAt (is_byte 34) (drop 1 at) n → is_end (drop (suc n) (drop 1 at)) ≡ true
      → Sets key (take n (drop 1 at)) text (drop (suc n) (drop 1 at))
  in_quotes n opens_at f ends =
      let inside : drop 1 at ≡ take n (drop 1 at) ++ marks.Byte 34 ∷ drop (suc n) (drop 1 at) =
      f.is ∙ ap (λ (m : Mark). take n (drop 1 at) ++ m ∷ drop (suc n) (drop 1 at)) (is_that 34 f.at f.passes) in
      record {
        white = white;
        at = at;
        text_is = is;
        is_blank = blank;
        form = λ value spelled. inl (record {
          inner = take n (drop 1 at);
          text_is = opens_at ∙ ap (λ (t : List Mark). marks.Byte 34 ∷ t) inside;
          is_open = f.none;
          spelled = spelled;
        });
        ends = ends;
      }

  closes : (n : ℕ) → at ≡ marks.Byte 34 ∷ drop 1 at → FoundAt (is_byte 34) (drop 1 at) n → (ends : Bool)
      → conf.ends_word (drop (n + 1) (drop 1 at)) ≡ ends
      → SetsNext (cond ends (conf.one key (take n (drop 1 at)) (drop (n + 1) (drop 1 at))) conf.broken) text
  closes n opens_at f true e =
      let ends : is_end (drop (suc n) (drop 1 at)) ≡ true = sym (ends_as (drop (suc n) (drop 1 at))) ∙ (rw add-one at e) in
      rw add-one (in_quotes n opens_at f ends)
  closes n opens_at f false e = tt

  quoted_spelled : (found : Option ℕ) → at ≡ marks.Byte 34 ∷ drop 1 at → position (is_byte 34) (drop 1 at) ≡ found
      → SetsNext (conf.quoted key (drop 1 at) found) text
  quoted_spelled None opens_at e = tt
  quoted_spelled (Some n) opens_at e = closes n opens_at (found_at (is_byte 34) (drop 1 at) n e) (conf.ends_word (drop (n + 1) (drop 1 at))) refl

  as_word : (inner followed : List Mark) → at ≡ inner ++ followed → quotes at ≡ false → list_any is_white_mark inner ≡ false → is_end followed ≡ true
      → Sets key inner text followed
  as_word inner followed at_is plain whole ends = record {
    white = white;
    at = at;
    text_is = is;
    is_blank = blank;
    form = λ value spelled. inr (record { inner = inner; text_is = at_is; unquoted = plain; unbroken = whole; spelled = spelled });
    ends = ends;
  }

  to_white : (n : ℕ) → quotes at ≡ false → FoundAt is_white_mark at n → Sets key (take n at) text (drop n at)
  to_white n plain f =
      as_word (take n at) (drop n at) (f.is ∙ ap (λ (t : List Mark). take n at ++ t) (sym f.rest)) plain f.none
      (white_ends (drop n at) f.at (drop (suc n) at) f.rest f.passes)

  word_spelled : (found : Option ℕ) → quotes at ≡ false → position is_white_mark at ≡ found → SetsNext (conf.unquoted key at found) text
  word_spelled None plain e = as_word at [] (sym (append-nil at)) plain (none_at is_white_mark at e) refl
  word_spelled (Some n) plain e = to_white n plain (found_at is_white_mark at n e)

  either_spelled : (is_quoted : Bool) → begins_with (34 ∷ []) at ≡ is_quoted
      → SetsNext (cond is_quoted (conf.quoted key (drop 1 at) (position (is_byte 34) (drop 1 at))) (conf.unquoted key at (position is_white_mark at))) text
  either_spelled true e = quoted_spelled (position (is_byte 34) (drop 1 at)) (quoted_by at (sym (quoted at) ∙ e)) refl
  either_spelled false e = word_spelled (position is_white_mark at) (sym (quoted at) ∙ e) refl

  value_set : SetsNext (conf.at_value key at) text
  value_set = either_spelled (begins_with (34 ∷ []) at) refl

-- ---- white space before a setting

pub record Skipped (text : List Mark) : Type 0 where
  pub white : List Mark
  pub is : text ≡ white ++ after_white text
  pub is_blank : list_all is_white_mark white ≡ true

skip_one : (m : Mark) (ms : List Mark) → Skipped ms → (white : Bool) → is_white_mark m ≡ white → Skipped (m ∷ ms)
skip_one m ms s true e = record {
  white = m ∷ s.white;
  is = rw e (ap (λ (t : List Mark). m ∷ t) s.is);
  is_blank = rw e s.is_blank;
}
skip_one m ms s false e = record { white = []; is = rw e refl; is_blank = refl }

skipped : (text : List Mark) → Skipped text
skipped [] = record { white = []; is = refl; is_blank = refl }
skipped (m ∷ ms) = skip_one m ms (skipped ms) (is_white_mark m) refl

is_empty : {A : Type 0} (xs : List A) → (length xs == 0) ≡ true → xs ≡ []
is_empty [] e = refl
is_empty (x ∷ xs) e = absurd (grind (arith, nat_tests))

only_white : (text : List Mark) (s : Skipped text) → after_white text ≡ [] → list_all is_white_mark text ≡ true
only_white text s none =
    let is : text ≡ s.white = s.is ∙ ap (λ (t : List Mark). s.white ++ t) none ∙ append-nil s.white in
    ap (list_all is_white_mark) is ∙ s.is_blank

begun : (word : List ℕ) (ms : List Mark) → begins_with word ms ≡ true → ms ≡ map (λ b. marks.Byte b) word ++ drop (length word) ms
begun [] ms e = refl
begun (c ∷ cs) [] e = absurd cc
begun (c ∷ cs) (m ∷ ms) e =
    let parts = both (is_byte c m) (begins_with cs ms) e in
    ap (λ (n : Mark). n ∷ ms) (is_that c m parts.0) ∙ ap (λ (t : List Mark). marks.Byte c ∷ t) (begun cs ms parts.1)

module _ (text : List Mark) (s : Skipped text) where
  word_at : (key : Key) (rest : List Mark) → after_white text ≡ word_of key ++ rest → SetsNext (conf.at_value key rest) text
  word_at key rest is = value_set key s.white rest text (s.is ∙ ap (λ (t : List Mark). s.white ++ t) is) s.is_blank

  by_override : (is : Bool) → begins_with (codes "OVERRIDE=") (after_white text) ≡ is
      → SetsNext (cond is (conf.at_value Override (drop 9 (after_white text))) conf.broken) text
  by_override true e = word_at Override (drop 9 (after_white text)) (begun (codes "OVERRIDE=") (after_white text) e)
  by_override false e = tt

  by_default : (is : Bool) → begins_with (codes "DEFAULT=") (after_white text) ≡ is
      → SetsNext (cond is (conf.at_value Default (drop 8 (after_white text)))
      (cond (begins_with (codes "OVERRIDE=") (after_white text)) (conf.at_value Override (drop 9 (after_white text))) conf.broken)) text
  by_default true e = word_at Default (drop 8 (after_white text)) (begun (codes "DEFAULT=") (after_white text) e)
  by_default false e = by_override (begins_with (codes "OVERRIDE=") (after_white text)) refl

  by_end : (is : Bool) → (length (after_white text) == 0) ≡ is
      → SetsNext (cond is conf.ended (cond (begins_with (codes "DEFAULT=") (after_white text)) (conf.at_value Default (drop 8 (after_white text)))
      (cond (begins_with (codes "OVERRIDE=") (after_white text)) (conf.at_value Override (drop 9 (after_white text))) conf.broken))) text
  by_end true e = only_white text s (is_empty (after_white text) e)
  by_end false e = by_default (begins_with (codes "DEFAULT=") (after_white text)) refl

setting_spelled : (text : List Mark) → SetsNext (conf.next_setting text) text
setting_spelled text = by_end text (skipped text) (length (after_white text) == 0) refl

-- ---- the settings of a line

abbrev pub SettlesTo : Values → Option Values → List Mark → Type 0
SettlesTo values None text = Unit {0}
SettlesTo values (Some all) text = (given : List Given) × SpellsSettings given text × (values_after given values ≡ all)

whole_setting : (key : Key) (inner text followed : List Mark) (value : List Piece) → Sets key inner text followed → SpellsValue value inner
    → SpellsSetting key value text followed
whole_setting key inner text followed value s spelled = record {
  white = s.white;
  at = s.at;
  text_is = s.text_is;
  is_blank = s.is_blank;
  spelled = s.form value spelled;
  ends = s.ends;
}

one_more : (key : Key) (value : List Piece) (text followed : List Mark) (values : Values) → SpellsSetting key value text followed
    → (all : Option Values) → SettlesTo (conf.with_value key value values) all followed → SettlesTo values all text
one_more key value text followed values s None t = tt
one_more key value text followed values s (Some all) t = (record { key = key; value = value } ∷ t.0, (followed, s, t.1), t.2)

module _ (more : Values → List Mark → Option Values) (spelled : (values : Values) (rest : List Mark) → SettlesTo values (more values rest) rest) (values : Values) (text : List Mark) where
  by_value : (key : Key) (inner followed : List Mark) → Sets key inner text followed → (value : Option (List Piece)) → SpellsRead value inner
      → SettlesTo values (conf.values_after_pieces more values key followed value) text
  by_value key inner followed s None t = tt
  by_value key inner followed s (Some value) t =
      one_more key value text followed values (whole_setting key inner text followed value s t) (more (conf.with_value key value values) followed)
      (spelled (conf.with_value key value values) followed)

  by_setting_spelled : (found : conf.Setting) → SetsNext found text → SettlesTo values (conf.values_after_setting more values found) text
  by_setting_spelled conf.ended s = ([], s, refl)
  by_setting_spelled conf.broken s = tt
  by_setting_spelled (conf.one key inner followed) s = by_value key inner followed s (pieces_of inner) (value_is_spelled inner)

none_left : (values : Values) (text : List Mark) (is : Bool) → (length (after_white text) == 0) ≡ is → SettlesTo values (cond is (Some values) None) text
none_left values text true e = ([], only_white text (skipped text) (is_empty (after_white text) e), refl)
none_left values text false e = tt

settings_spelled : (n : ℕ) (values : Values) (text : List Mark) → SettlesTo values (conf.values_within n values text) text
settings_spelled zero values text = none_left values text (length (after_white text) == 0) refl
settings_spelled (suc n) values text = by_setting_spelled (conf.values_within n) (settings_spelled n) values text (conf.next_setting text) (setting_spelled text)

values_spelled : (text : List Mark) → SettlesTo conf.no_values (values_of text) text
unfolding values_of
values_spelled text = settings_spelled (length text) conf.no_values text

-- ---- lines

pub record Fronted (line : List ℕ) : Type 0 where
  pub white : List ℕ
  pub is : line ≡ white ++ conf.without_leading_white line
  pub is_blank : list_all is_white white ≡ true
  pub head : (conf.without_leading_white line ≡ []) ⊎ ((b : ℕ) × (bs : List ℕ) × (conf.without_leading_white line ≡ b ∷ bs) × (is_white b ≡ false))

front_one : (b : ℕ) (bs : List ℕ) → Fronted bs → (white : Bool) → is_white b ≡ white → Fronted (b ∷ bs)
front_one b bs f true e = record {
  white = b ∷ f.white;
  is = rw e (ap (λ (t : List ℕ). b ∷ t) f.is);
  is_blank = rw e f.is_blank;
  head = rw e f.head;
}
front_one b bs f false e = record { white = []; is = rw e refl; is_blank = refl; head = inr (b, bs, (rw e refl), e) }

fronted : (line : List ℕ) → Fronted line
fronted [] = record { white = []; is = refl; is_blank = refl; head = inl refl }
fronted (b ∷ bs) = front_one b bs (fronted bs) (is_white b) refl

-- a line without leading white space that doesn't count is empty or a comment
is_comment : (text : List ℕ) → conf.counts text ≡ false → (text ≡ []) ⊎ ((more : List ℕ) × (text ≡ 35 ∷ more))
is_comment [] e = inl refl
is_comment (b ∷ bs) e = let same : b ≡ 35 = grind (arith, nat_tests) in inr (bs, ap (λ (n : ℕ). n ∷ bs) same)

passed : (line : List ℕ) → conf.counts (conf.without_leading_white line) ≡ false → IsPassedOver line
passed line e =
    let f = fronted line in
    record { white = f.white; comment = conf.without_leading_white line; line_is = f.is; is_blank = f.is_blank; is_comment = is_comment (conf.without_leading_white line) e }

not_comment : (b : ℕ) (bs : List ℕ) → conf.counts (b ∷ bs) ≡ true → (b == 35) ≡ false
not_comment b bs e = grind (arith, nat_tests)

-- a line's name, and what follows it
pub record Named (text : List ℕ) : Type 0 where
  pub tail : List ℕ
  pub is : text ≡ before_first is_white text ++ tail
  pub follows : Follows tail (after_first is_white text)
  pub whole : list_any is_white (before_first is_white text) ≡ false

named_by : (text : List ℕ) (found : Option ℕ) → position is_white text ≡ found → Named text
named_by text None e =
    let none = none_at is_white text e in
    let at : position_or_len is_white text ≡ length text = none_before is_white text none in
    let all : before_first is_white text ≡ text = rw at (take-length text) in
    let followed : after_first is_white text ≡ [] = rw at (drop_of_length-le text (omega arith)) in
    record {
      tail = [];
      is = sym (ap (λ (t : List ℕ). t ++ []) all ∙ append-nil text);
      follows = inl (refl, followed);
      whole = ap (list_any is_white) all ∙ none;
    }
named_by text (Some n) e =
    let at : position_or_len is_white text ≡ n = grind (arith, nat_tests) in
    let f = found_at is_white text n e in
    let followed : after_first is_white text ≡ drop (suc n) text = rw (at, add-one) refl in
    record {
      tail = drop n text;
      is = rw at (f.is ∙ ap (λ (t : List ℕ). take n text ++ t) (sym f.rest));
      follows = inr (f.at, (f.rest ∙ ap (λ (t : List ℕ). f.at ∷ t) (sym followed)), f.passes);
      whole = rw at f.none;
    }

module _ (line white : List ℕ) (b : ℕ) (bs : List ℕ) (is : line ≡ white ++ b ∷ bs) (blank : list_all is_white white ≡ true) (plain : is_white b ≡ false)
    (counted : (b == 35) ≡ false) where
  name_front : before_first is_white (b ∷ bs) ≡ b ∷ before_first is_white bs
  name_front = rw (plain, one-add) refl

  by_values : has_byte 61 (before_first is_white (b ∷ bs)) ≡ false → (values : Option Values)
      → SettlesTo conf.no_values values (marks_of (after_first is_white (b ∷ bs))) → (entry : EnvLine)
      → conf.with_values (before_first is_white (b ∷ bs)) values ≡ Some entry → SpellsEntry entry line
  by_values unassigned None t entry e = absurd cc
  by_values unassigned (Some values) t entry e =
      let n = named_by (b ∷ bs) (position is_white (b ∷ bs)) refl in
      let settled_is = t.2 in
      record {
        white = white;
        first = b;
        others = before_first is_white bs;
        tail = n.tail;
        settings = after_first is_white (b ∷ bs);
        given = t.0;
        line_is = is ∙ ap (λ (u : List ℕ). white ++ u) (n.is ∙ ap (λ (u : List ℕ). u ++ n.tail) name_front);
        is_blank = blank;
        uncommented = counted;
        unbroken = ap (list_any is_white) (sym name_front) ∙ n.whole;
        unassigned = ap (has_byte 61) (sym name_front) ∙ unassigned;
        follows = n.follows;
        spelled = t.1;
        entry_is = cc (name_front, settled_is, e);
      }

  by_name : (assigns : Bool) → has_byte 61 (before_first is_white (b ∷ bs)) ≡ assigns → (entry : EnvLine)
      → cond assigns None (conf.with_values (before_first is_white (b ∷ bs)) (values_of (marks_of (after_first is_white (b ∷ bs))))) ≡ Some entry
      → SpellsEntry entry line
  by_name true at entry e = absurd cc
  by_name false at entry e =
      by_values at (values_of (marks_of (after_first is_white (b ∷ bs)))) (values_spelled (marks_of (after_first is_white (b ∷ bs)))) entry e

by_head : (line : List ℕ) (entry : EnvLine) (f : Fronted line) → (conf.without_leading_white line ≡ []) ⊎ ((b : ℕ) × (bs : List ℕ) × (conf.without_leading_white line ≡ b ∷ bs) × (is_white b ≡ false))
    → conf.counts (conf.without_leading_white line) ≡ true → conf.entry_at (conf.without_leading_white line) ≡ Some entry → SpellsEntry entry line
by_head line entry f (inl none) e found = let not : false ≡ true = rw none at e in absurd cc
by_head line entry f (inr h) e found =
    let counted : conf.counts (h.0 ∷ h.1) ≡ true = rw h.2 at e in
    let read : conf.entry_at (h.0 ∷ h.1) ≡ Some entry = rw h.2 at found in
    by_name line f.white h.0 h.1 (f.is ∙ ap (λ (t : List ℕ). f.white ++ t) h.2) f.is_blank h.3 (not_comment h.0 h.1 counted)
    (has_byte 61 (before_first is_white (h.0 ∷ h.1))) refl entry read

entry_spelled : (line : List ℕ) (entry : EnvLine) → conf.counts (conf.without_leading_white line) ≡ true → conf.entry_at (conf.without_leading_white line) ≡ Some entry
    → SpellsEntry entry line
entry_spelled line entry e found = by_head line entry (fronted line) (fronted line).head e found

abbrev pub LinesRead : Option (List EnvLine) → List (List ℕ) → Type 0
LinesRead None lines = Unit {0}
LinesRead (Some entries) lines = SpellsLines entries lines

line_passed : (line : List ℕ) (lines : List (List ℕ)) → IsPassedOver line → (more : Option (List EnvLine)) → LinesRead more lines → LinesRead more (line ∷ lines)
line_passed line lines s None t = tt
line_passed line lines s (Some entries) t = inl (s, t)

line_entry : (line : List ℕ) (lines : List (List ℕ)) (more : Option (List EnvLine)) → LinesRead more lines → (found : Option EnvLine)
    → ((entry : EnvLine) → found ≡ Some entry → SpellsEntry entry line) → LinesRead (conf.put_before found more) (line ∷ lines)
line_entry line lines more t None spelled = tt
line_entry line lines None t (Some entry) spelled = tt
line_entry line lines (Some entries) t (Some entry) spelled = inr (entry, entries, refl, spelled entry refl, t)

line_spelled : (line : List ℕ) (lines : List (List ℕ)) (more : Option (List EnvLine)) → LinesRead more lines → (is : Bool) → conf.counts (conf.without_leading_white line) ≡ is
    → LinesRead (cond is (conf.put_before (conf.entry_at (conf.without_leading_white line)) more) more) (line ∷ lines)
line_spelled line lines more t true e =
    line_entry line lines more t (conf.entry_at (conf.without_leading_white line)) (λ entry f. entry_spelled line entry e f)
line_spelled line lines more t false e = line_passed line lines (passed line e) more t

lines_spelled : (lines : List (List ℕ)) → LinesRead (conf.entries_of lines) lines
lines_spelled [] = refl
lines_spelled (line ∷ lines) = line_spelled line lines (conf.entries_of lines) (lines_spelled lines) (conf.counts (conf.without_leading_white line)) refl

pub conf_is_spelled : (entries : List EnvLine) (text : List ℕ) → conf.conf_of text ≡ Some entries → SpellsConf entries text
conf_is_spelled entries text e = subst (λ (o : Option (List EnvLine)). LinesRead o (lines_of text)) e (lines_spelled (lines_of text))
