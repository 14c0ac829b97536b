-- A printed control reads back as itself.
use Rattle.std.proofs.Common.{◌≡◌, ℕ, zero, suc, ◌-◌, Bool, true, false, not, cond, eqb, List, [], ◌∷◌, ◌++◌, length, map, get_or, take, drop, Option, Some, None, Ok, refl, sym, ap, ◌∙◌, arith, append_assoc, length-append, inl, inr}
use Rattle.std.specs.Prelude.{codes}
use Rattle.std.specs.List.{flat_map, filter, filter_map, list_all, list_any, last_or, position_or_len, before_first}
use Rattle.std.specs.Option.{option_and_then}
use Rattle.std.specs.Result.{result_ok}
use Rattle.std.proofs.lemmas.Bool.{cases_Bool, ne_eqb, and_parts, and_from, not-true, not-false, eqb-true, or_parts}
use Rattle.std.proofs.Math.Seq.{take-append_seam, drop-append_seam}
use Rattle.pam_base.specs.White.{is_white}
use Rattle.pam_base.specs.Code.{all_codes, code_word, number_of}
use Rattle.pam_base.specs.declared.code.Code.{Code}
use Rattle.pam_base.specs.declared.code.Code.TheVariants.{Success}
use Rattle.control_words.specs.declared.control.Action.{Action}
use Rattle.control_words.specs.declared.control.Action.TheVariants as actions
use Rattle.control_words.specs.declared.bracket.ControlFault.{ControlFault}
use Rattle.control_words.specs.Control.{action_at}
use Rattle.control_words.specs.Bracket.{action_of_word, is_default, names, last_action, action_among, fault_of_entry, control_unless, control_of_entries, control_of}
use Rattle.control_words.specs.Entries.{ControlPair, FirstEntry, ends_name, from_first, first_entry, with_name, with_action, entries_after, entries_in}
use Rattle.control_words.specs.Entries.{after_space as after_white}
use Rattle.service_print.specs.Tokens.{after_space, spaced}
use Rattle.service_print.specs.Controls.{action_word, same_action, entry_text, has_entry, entries_among}
use Rattle.service_print.proofs.Actions.{same_action-equal, is_name, is_action, code_at, code_word-named, code_word-name, code_word-other, begins_some, code_word-some, is_fine, action_reads}

-- ---- the beginning of a text, up to the first byte that passes a test

abbrev stops : (ℕ → Bool) → List ℕ → Bool
stops test [] = true
stops test (b ∷ bs) = test b

cut_at : (test : ℕ → Bool) (front rest : List ℕ) → list_all (λ b. not (test b)) front ≡ true → stops test rest ≡ true
    → position_or_len test (front ++ rest) ≡ length front
cut_at test [] [] none stop = refl
cut_at test [] (b ∷ bs) none stop = rw stop refl
cut_at test (c ∷ front) rest none stop =
    let parts = and_parts (not (test c)) (list_all (λ b. not (test b)) front) none in
    rw (parts.0, cut_at test front rest parts.1 stop) (omega arith)

cut_front : (test : ℕ → Bool) (front rest : List ℕ) → list_all (λ b. not (test b)) front ≡ true → stops test rest ≡ true
    → before_first test (front ++ rest) ≡ front
cut_front test front rest none stop = ap (λ n. take n (front ++ rest)) (cut_at test front rest none stop) ∙ take-append_seam front rest

cut_rest : (test : ℕ → Bool) (front rest : List ℕ) → list_all (λ b. not (test b)) front ≡ true → stops test rest ≡ true → from_first test (front ++ rest) ≡ rest
cut_rest test front rest none stop = ap (λ n. drop n (front ++ rest)) (cut_at test front rest none stop) ∙ drop-append_seam front rest

-- ---- one entry

no_white_first : (text rest : List ℕ) → begins_some is_action text ≡ true → after_white (text ++ rest) ≡ text ++ rest
no_white_first [] rest some = absurd cc
no_white_first (b ∷ bs) rest some = rw (not-true (is_white b) some) refl

first_entry_is : (name action rest : List ℕ) → list_all is_name name ≡ true → list_all is_action action ≡ true → begins_some is_action action ≡ true
    → stops is_white rest ≡ true
    → first_entry (name ++ 61 ∷ (action ++ rest)) ≡ record { entry = record { name = name; action = action }; rest = rest }
first_entry_is name action rest named acts some stop =
    let front : before_first ends_name (name ++ 61 ∷ (action ++ rest)) ≡ name = cut_front ends_name name (61 ∷ (action ++ rest)) named refl in
    let the_rest : from_first ends_name (name ++ 61 ∷ (action ++ rest)) ≡ 61 ∷ (action ++ rest) = cut_rest ends_name name (61 ∷ (action ++ rest)) named refl in
    let value : before_first is_white (action ++ rest) ≡ action = cut_front is_white action rest acts stop in
    let more : from_first is_white (action ++ rest) ≡ rest = cut_rest is_white action rest acts stop in
    ap (λ (n : List ℕ). with_name n (after_white (from_first ends_name (name ++ 61 ∷ (action ++ rest))))) front
    ∙ ap (λ (t : List ℕ). with_name name (after_white t)) the_rest
    ∙ ap (λ (t : List ℕ). with_action name t) (no_white_first action rest some)
    ∙ ap (λ (a : List ℕ). record { entry = record { name = name; action = a }; rest = from_first is_white (action ++ rest) }) value
    ∙ ap (λ (r : List ℕ). record { entry = record { name = name; action = action }; rest = r }) more

-- ---- the entries of a text

after_front : (front rest : List ℕ) → entries_after (length front) (front ++ rest) ≡ entries_after 0 rest
unfolding entries_after
after_front [] rest = refl
after_front (b ∷ front) rest = after_front front rest

black_first : (b : ℕ) (bs : List ℕ) (found : FirstEntry) → is_white b ≡ false → first_entry (b ∷ bs) ≡ found
    → entries_after 0 (b ∷ bs) ≡ found.entry ∷ entries_after (length bs - length found.rest) bs
unfolding entries_after
black_first b bs found black read = ap (λ (w : Bool). elim w [ true ↦ entries_after 0 bs | false ↦ (first_entry (b ∷ bs)).entry ∷ entries_after (length bs - length (first_entry (b ∷ bs)).rest) bs ]) black ∙ ap (λ (f : FirstEntry). f.entry ∷ entries_after (length bs - length f.rest) bs) read

one_entry : (first : ℕ) (more name action rest : List ℕ) → name ++ 61 ∷ action ≡ first ∷ more → is_white first ≡ false
    → first_entry ((name ++ 61 ∷ action) ++ rest) ≡ record { entry = record { name = name; action = action }; rest = rest }
    → entries_after 0 ((name ++ 61 ∷ action) ++ rest) ≡ record { name = name; action = action } ∷ entries_after 0 rest
unfolding entries_after
one_entry first more name action rest is black found =
    let read : first_entry (first ∷ (more ++ rest)) ≡ record { entry = record { name = name; action = action }; rest = rest } = ap (λ (t : List ℕ). first_entry (t ++ rest)) (sym is) ∙ found in
    let left : length (more ++ rest) - length rest ≡ length more = omega (arith, length-append more rest) in
    ap (λ (t : List ℕ). entries_after 0 (t ++ rest)) is
    ∙ black_first first (more ++ rest) (record { entry = record { name = name; action = action }; rest = rest }) black read
    ∙ ap (λ n. record { name = name; action = action } ∷ entries_after n (more ++ rest)) left
    ∙ (ap (λ (es : List ControlPair). record { name = name; action = action } ∷ es) (after_front more rest))

-- ---- the entries of a control

abbrev entry_record : List Action → Code → ControlPair
entry_record control code = record { name = code_word code; action = action_word (action_at control code) }

-- each of these codes has an action that can be read
abbrev all_fine : List Action → List Code → Bool
all_fine control codes = list_all (λ code. is_fine (action_at control code)) codes

pub record BeginsName (text : List ℕ) : Type 0 where
  pub first : ℕ
  pub more : List ℕ
  pub is : text ≡ first ∷ more
  pub black : is_white first ≡ false

begins_name : (name rest : List ℕ) → begins_some is_name name ≡ true → BeginsName (name ++ rest)
begins_name [] rest some = absurd cc
begins_name (b ∷ bs) rest some = record { first = b; more = bs ++ rest; is = refl; black = (or_parts (is_white b) (eqb b 61) (not-true (ends_name b) some)).0 }

a_code : (control : List Action) (code : Code) (rest : List ℕ) → is_fine (action_at control code) ≡ true → stops is_white rest ≡ true
    → entries_after 0 (entry_text control code ++ rest) ≡ entry_record control code ∷ entries_after 0 rest
a_code control code rest fine stop =
    let word = action_word (action_at control code) in
    let read = action_reads (action_at control code) fine in
    let begins = begins_name (code_word code) (61 ∷ word) (code_word-some code) in
    one_entry begins.first begins.more (code_word code) word rest begins.is begins.black
    (ap first_entry (append_assoc (code_word code) (61 ∷ word) rest) ∙ first_entry_is (code_word code) word rest (code_word-name code) read.bytes read.some stop)

space_first : (text : List ℕ) → entries_after 0 (32 ∷ text) ≡ entries_after 0 text
unfolding entries_after
space_first text = refl

no_entries : entries_after 0 [] ≡ []
unfolding entries_after
no_entries = refl

after_stops : (texts : List (List ℕ)) → stops is_white (flat_map after_space texts) ≡ true
after_stops [] = refl
after_stops (text ∷ texts) = refl

after_entries : (control : List Action) (codes : List Code) → all_fine control codes ≡ true
    → entries_after 0 (flat_map after_space (map (entry_text control) codes)) ≡ map (entry_record control) codes
after_entries control [] fine = no_entries
after_entries control (code ∷ codes) fine =
    let parts = and_parts (is_fine (action_at control code)) (all_fine control codes) fine in
    let rest = flat_map after_space (map (entry_text control) codes) in
    space_first (entry_text control code ++ rest) ∙ a_code control code rest parts.0 (after_stops (map (entry_text control) codes)) ∙ ap (λ (es : List ControlPair). entry_record control code ∷ es) (after_entries control codes parts.1)

spaced_entries : (control : List Action) (codes : List Code) → all_fine control codes ≡ true
    → entries_after 0 (spaced (map (entry_text control) codes)) ≡ map (entry_record control) codes
spaced_entries control [] fine = no_entries
spaced_entries control (code ∷ codes) fine =
    let parts = and_parts (is_fine (action_at control code)) (all_fine control codes) fine in
    let rest = flat_map after_space (map (entry_text control) codes) in
    a_code control code rest parts.0 (after_stops (map (entry_text control) codes)) ∙ ap (λ (es : List ControlPair). entry_record control code ∷ es) (after_entries control codes parts.1)

-- ---- the control of the entries

some_length : (test : ℕ → Bool) (text : List ℕ) → begins_some test text ≡ true → eqb (length text) 0 ≡ false
some_length test [] some = absurd cc
some_length test (b ∷ bs) some = ne_eqb (length (b ∷ bs)) 0 (λ e. absurd (omega arith))

entry_fine : (control : List Action) (code : Code) → is_fine (action_at control code) ≡ true → fault_of_entry (entry_record control code) ≡ None
entry_fine control code fine =
    let read = action_reads (action_at control code) fine in
    rw (some_length is_name (code_word code) (code_word-some code), some_length is_action (action_word (action_at control code)) read.some, code_word-other code, code_word-named code, read.reads) refl

entries_fine : (control : List Action) (codes : List Code) → all_fine control codes ≡ true → filter_map fault_of_entry (map (entry_record control) codes) ≡ []
entries_fine control [] fine = refl
entries_fine control (code ∷ codes) fine =
    let parts = and_parts (is_fine (action_at control code)) (all_fine control codes) fine in
    rw (entry_fine control code parts.0) (entries_fine control codes parts.1)

-- each code that has an entry has an action that can be read
some_fine : (control : List Action) (codes : List Code) → all_fine control codes ≡ true → all_fine control (filter (has_entry control) codes) ≡ true
some_fine control [] fine = refl
some_fine control (code ∷ codes) fine =
    let parts = and_parts (is_fine (action_at control code)) (all_fine control codes) fine in
    elim (cases_Bool (has_entry control code)) [
      | inl y ↦ rw y (and_from (is_fine (action_at control code)) (all_fine control (filter (has_entry control) codes)) parts.0 (some_fine control codes parts.1))
      | inr n ↦ rw n (some_fine control codes parts.1)
    ]

no_default : (control : List Action) (codes : List Code) → filter (λ (entry : ControlPair). is_default entry.name) (map (entry_record control) codes) ≡ []
no_default control [] = refl
no_default control (code ∷ codes) = rw (code_word-other code) (no_default control codes)

pub same_number : (code other : Code) → eqb (number_of code) (number_of other) ≡ true → code ≡ other
same_number code other is = sym (code_at code) ∙ ap (λ n. get_or all_codes n Success) (eqb-true (number_of code) (number_of other) is) ∙ code_at other

names_word : (code named : Code) → names code (code_word named) ≡ eqb (number_of named) (number_of code)
names_word code named = rw (code_word-named named) refl

-- the last entry of a code among the entries of these codes, given the one found so far
abbrev last_found : List Action → Code → List Code → Option ControlPair → Option ControlPair
last_found control code codes before = last_or before (filter (λ (entry : ControlPair). names code entry.name) (map (entry_record control) (filter (has_entry control) codes)))

kept : (control : List Action) (code c : Code) (codes : List Code) (before : Option ControlPair) → has_entry control c ≡ true
    → eqb (number_of c) (number_of code) ≡ true
    → last_found control code (c ∷ codes) before ≡ last_found control code codes (Some (entry_record control c))
kept control code c codes before has same = rw has (rw (names_word code c ∙ same) refl)

passed : (control : List Action) (code c : Code) (codes : List Code) (before : Option ControlPair) → eqb (number_of c) (number_of code) ≡ false
    → last_found control code (c ∷ codes) before ≡ last_found control code codes before
passed control code c codes before other =
    elim (cases_Bool (has_entry control c)) [
      | inl y ↦ rw y (rw (names_word code c ∙ other) refl)
      | inr n ↦ rw n refl
    ]

one_of_two : {A : Type 0} (b : Bool) (x y : A) → x ≡ y → cond b x y ≡ y
one_of_two true x y same = same
one_of_two false x y same = refl

found_among : (control : List Action) (code : Code) (codes : List Code) (before : Option ControlPair) → has_entry control code ≡ true
    → last_found control code codes before ≡ cond (list_any (λ c. eqb (number_of c) (number_of code)) codes) (Some (entry_record control code)) before
found_among control code [] before has = refl
found_among control code (c ∷ codes) before has =
    elim (cases_Bool (eqb (number_of c) (number_of code))) [
      | inl y ↦
          (let is : code ≡ c = sym (same_number c code y) in
          let has_c : has_entry control c ≡ true = ap (has_entry control) (sym is) ∙ has in
          let record_is : Some (entry_record control code) ≡ Some (entry_record control c) = ap (λ (x : Code). Some (entry_record control x)) is in
          kept control code c codes before has_c y
          ∙ found_among control code codes (Some (entry_record control c)) has
          ∙ one_of_two (list_any (λ c'. eqb (number_of c') (number_of code)) codes) (Some (entry_record control code)) (Some (entry_record control c)) record_is
          ∙ sym record_is
          ∙ rw y refl)
      | inr n ↦ passed control code c codes before n ∙ found_among control code codes before has ∙ rw n refl
    ]

none_among : (control : List Action) (code : Code) (codes : List Code) (before : Option ControlPair) → has_entry control code ≡ false
    → last_found control code codes before ≡ before
none_among control code [] before has = refl
none_among control code (c ∷ codes) before has =
    elim (cases_Bool (eqb (number_of c) (number_of code))) [
      | inl y ↦
          (let has_c : has_entry control c ≡ false = ap (has_entry control) (same_number c code y) ∙ has in
          rw has_c (none_among control code codes before has))
      | inr n ↦ passed control code c codes before n ∙ none_among control code codes before has
    ]

in_codes : (code : Code) → list_any (λ c. eqb (number_of c) (number_of code)) all_codes ≡ true
in_codes Success = refl
in_codes code = refl

-- the action of a code among the entries of a control
action_found : (control : List Action) (codes : List Code) (code : Code) → list_any (λ c. eqb (number_of c) (number_of code)) codes ≡ true
    → is_fine (action_at control code) ≡ true
    → action_among (map (entry_record control) (filter (has_entry control) codes)) code ≡ action_at control code
action_found control codes code among fine =
    let entries = map (entry_record control) (filter (has_entry control) codes) in
    let no_default_action : last_action is_default entries ≡ None = ap (λ (es : List ControlPair). option_and_then (λ (entry : ControlPair). result_ok (action_of_word entry.action)) (last_or None es)) (no_default control (filter (has_entry control) codes)) in
    elim (cases_Bool (has_entry control code)) [
      | inl y ↦
          (let found : last_found control code codes None ≡ Some (entry_record control code) = found_among control code codes None y ∙ rw among refl in
          let named : last_action (names code) entries ≡ Some (action_at control code) =
          ap (λ (o : Option ControlPair). option_and_then (λ (entry : ControlPair). result_ok (action_of_word entry.action)) o) found ∙ ap result_ok (action_reads (action_at control code) fine).reads in
          rw (no_default_action, named) refl)
      | inr n ↦
          (let bad : action_at control code ≡ actions.Bad = same_action-equal (action_at control code) actions.Bad (not-false (same_action (action_at control code) actions.Bad) n) in
          let named : last_action (names code) entries ≡ None = ap (λ (o : Option ControlPair). option_and_then (λ (entry : ControlPair). result_ok (action_of_word entry.action)) o) (none_among control code codes None n) in
          rw (no_default_action, named, bad) refl)
    ]

-- ---- a control is the list of its actions

abbrev counting : ℕ → ℕ → List ℕ
counting first zero = []
counting first (suc n) = first ∷ counting (suc first) n

at_seam : (front back : List Action) (a default : Action) → get_or (front ++ a ∷ back) (length front) default ≡ a
at_seam [] back a default = refl
at_seam (b ∷ front) back a default = at_seam front back a default

each_at : (front back : List Action) (default : Action) → map (λ n. get_or (front ++ back) n default) (counting (length front) (length back)) ≡ back
each_at front [] default = refl
each_at front (a ∷ back) default =
    let longer : length (front ++ a ∷ []) ≡ suc (length front) = omega (arith, length-append front (a ∷ [])) in
    let more : map (λ n. get_or (front ++ a ∷ back) n default) (counting (suc (length front)) (length back)) ≡ back =
    ap (λ n. map (λ k. get_or (front ++ a ∷ back) k default) (counting n (length back))) (sym longer)
    ∙ ap (λ (xs : List Action). map (λ k. get_or xs k default) (counting (length (front ++ a ∷ [])) (length back))) (sym (append_assoc front (a ∷ []) back))
    ∙ each_at (front ++ a ∷ []) back default
    in
    rw (at_seam front back a default, more) refl

pub each_action : (control : List Action) → length control ≡ 32 → map (action_at control) all_codes ≡ control
each_action control length_is = ap (λ k. map (λ n. get_or control n actions.Bad) (counting 0 k)) (sym length_is) ∙ each_at [] control actions.Bad

pub map_same : {A B : Type 0} (f g : A → B) (xs : List A) → ((x : A) → f x ≡ g x) → map f xs ≡ map g xs
map_same f g [] same = refl
map_same f g (x ∷ xs) same = rw (same x, map_same f g xs same) refl

-- ---- controls in brackets

settled : (control : List Action) (entries : List ControlPair) → length control ≡ 32 → filter_map fault_of_entry entries ≡ []
    → ((code : Code) → action_among entries code ≡ action_at control code)
    → control_of_entries entries ≡ Ok control
settled control entries length_is fine same =
    ap (λ (faults : List ControlFault). control_unless faults entries) fine ∙ ap Ok (map_same (action_among entries) (action_at control) all_codes same ∙ each_action control length_is)

pub fine_at : (control : List Action) (n : ℕ) → list_all is_fine control ≡ true → is_fine (get_or control n actions.Bad) ≡ true
fine_at [] n fine = refl
fine_at (a ∷ more) zero fine = (and_parts (is_fine a) (list_all is_fine more) fine).0
fine_at (a ∷ more) (suc n) fine = fine_at more n (and_parts (is_fine a) (list_all is_fine more) fine).1

fine_codes : (control : List Action) (codes : List Code) → list_all is_fine control ≡ true → all_fine control codes ≡ true
fine_codes control [] fine = refl
fine_codes control (code ∷ codes) fine = and_from (is_fine (action_at control code)) (all_fine control codes) (fine_at control (number_of code) fine) (fine_codes control codes fine)

bracket_among : (control : List Action) (codes : List Code) → ((code : Code) → list_any (λ c. eqb (number_of c) (number_of code)) codes ≡ true)
    → length control ≡ 32 → list_all is_fine control ≡ true
    → control_of true (spaced (entries_among control codes)) ≡ Ok control
unfolding entries_among entries_in
bracket_among control codes among length_is fine =
    let some = some_fine control codes (fine_codes control codes fine) in
    ap control_of_entries (spaced_entries control (filter (has_entry control) codes) some)
    ∙ settled control (map (entry_record control) (filter (has_entry control) codes)) length_is (entries_fine control (filter (has_entry control) codes) some) (λ code. action_found control codes code (among code) (fine_at control (number_of code) fine))

-- a control that is written in brackets reads back
pub bracket_reads : (control : List Action) → length control ≡ 32 → list_all is_fine control ≡ true
    → control_of true (spaced (entries_among control all_codes)) ≡ Ok control
bracket_reads control = bracket_among control all_codes in_codes
