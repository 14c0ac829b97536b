-- The fields of a printed line, as the tokens that they read back as.
use Rattle.std.proofs.Common.{◌≡◌, ℕ, Bool, true, false, not, ◌||◌, ◌&&◌, cond, eqb, List, [], ◌∷◌, length, map, Option, Some, None, Ok, refl, sym, ap, ◌∙◌, inl, inr, ◌⊎◌}
use Rattle.std.specs.Prelude.{codes}
use Rattle.std.specs.List.{flat_map, filter, list_all, list_any}
use Rattle.std.proofs.lemmas.Bool.{cases_Bool, and_parts, and_from, not-true, not_from_false, or_parts, or_from, eqb-true, both_ways, false≢true, true≢false}
use Rattle.std.proofs.lemmas.List.Folds.{list_all-append}
use Rattle.pam_base.specs.White.{is_white}
use Rattle.pam_base.specs.Code.{all_codes, code_word}
use Rattle.pam_base.specs.declared.code.Code.{Code}
use Rattle.conf_lex.specs.declared.token.Token.{Token}
use Rattle.control_words.specs.declared.control.Action.{Action}
use Rattle.control_words.specs.Bracket.{control_of}
use Rattle.control_words.specs.Control.{action_at}
use Rattle.control_words.specs.Keyword.{required, requisite, sufficient, optional}
use Rattle.service_load.specs.declared.rule_type.RuleType.{RuleType}
use Rattle.service_load.specs.declared.rule_type.RuleType.TheVariants.{Auth}
use Rattle.service_load.specs.RuleType.{is_word, type_field_of}
use Rattle.service_print.specs.Tokens.{after_space, spaced, ends_token, wants_brackets, escaped_byte, token_text}
use Rattle.service_print.specs.Controls.{same_action, same_control, keyword_of, entry_text, has_entry, entries_among, control_text, action_word}
use Rattle.service_print.specs.Printed.{type_field}
use Rattle.service_print.proofs.Spelled.{last_is, is_plain, is_inner, is_plain_text, is_inner_text, is_sound, written}
use Rattle.service_print.proofs.Lexed.{is_set}
use Rattle.service_print.proofs.Actions.{same_action-equal, is_fine, is_word_byte, code_word-bytes, action_reads}
use Rattle.service_print.proofs.Controlled.{each_action, bracket_reads, fine_at}

-- ---- tests of bytes

-- a byte that passes a test is different from one that fails it
pub apart : (test : ℕ → Bool) (b k : ℕ) → test k ≡ false → test b ≡ true → eqb b k ≡ false
apart test b k fails passes = elim (cases_Bool (eqb b k)) [ inl y ↦ absurd (both_ways (test b) (ap test (eqb-true b k y) ∙ fails) passes) | inr n ↦ n ]

pub weaken : (p q : ℕ → Bool) → ((b : ℕ) → p b ≡ true → q b ≡ true) → (text : List ℕ) → list_all p text ≡ true → list_all q text ≡ true
weaken p q implies [] all = refl
weaken p q implies (b ∷ bs) all =
    let parts = and_parts (p b) (list_all p bs) all in
    and_from (q b) (list_all q bs) (implies b parts.0) (weaken p q implies bs parts.1)

pub never_last : (test : ℕ → Bool) (k : ℕ) → test k ≡ false → (text : List ℕ) → list_all test text ≡ true → last_is k text ≡ false
never_last test k fails [] all = refl
never_last test k fails (b ∷ []) all = apart test b k fails (and_parts (test b) true all).0
never_last test k fails (b ∷ c ∷ bs) all = never_last test k fails (c ∷ bs) (and_parts (test b) (list_all test (c ∷ bs)) all).1

-- a test that fails for bytes that no plain token has
pub record IsPlainTest (test : ℕ → Bool) : Type 0 where
  pub space : test 32 ≡ false
  pub tab : test 9 ≡ false
  pub return : test 13 ≡ false
  pub hash : test 35 ≡ false
  pub newline : test 10 ≡ false

pub plain_by : (test : ℕ → Bool) → IsPlainTest test → (b : ℕ) → test b ≡ true → is_plain b ≡ true
plain_by test fails b passes = rw (apart test b 32 fails.space passes, apart test b 9 fails.tab passes, apart test b 13 fails.return passes, apart test b 35 fails.hash passes, apart test b 10 fails.newline passes) refl

pub plain_text_by : (test : ℕ → Bool) → IsPlainTest test → test 91 ≡ false → (b : ℕ) (bs : List ℕ) → list_all test (b ∷ bs) ≡ true
    → is_plain_text (b ∷ bs) ≡ true
plain_text_by test fails bracket b bs all =
    let first = (and_parts (test b) (list_all test bs) all).0 in
    and_from (not (eqb b 91)) (list_all is_plain (b ∷ bs)) (not_from_false (eqb b 91) (apart test b 91 bracket first)) (weaken test is_plain (plain_by test fails) (b ∷ bs) all)

pub set_by : (test : ℕ → Bool) → test 0 ≡ false → (b : ℕ) → test b ≡ true → is_set b ≡ true
set_by test fails b passes = not_from_false (eqb b 0) (apart test b 0 fails passes)

pub inner_by : (test : ℕ → Bool) → test 10 ≡ false → (b : ℕ) → test b ≡ true → is_inner b ≡ true
inner_by test fails b passes = not_from_false (eqb b 10) (apart test b 10 fails passes)

unescaped : (text : List ℕ) → list_all is_word_byte text ≡ true → flat_map escaped_byte text ≡ text
unescaped [] all = refl
unescaped (b ∷ bs) all =
    let parts = and_parts (is_word_byte b) (list_all is_word_byte bs) all in
    rw (apart is_word_byte b 93 refl parts.0, unescaped bs parts.1) refl

-- ---- controls

agreeing : (a b : List Action) (codes : List Code) → list_all (λ code. same_action (action_at a code) (action_at b code)) codes ≡ true
    → map (action_at a) codes ≡ map (action_at b) codes
agreeing a b [] same = refl
agreeing a b (code ∷ codes) same =
    let parts = and_parts (same_action (action_at a code) (action_at b code)) (list_all (λ c. same_action (action_at a c) (action_at b c)) codes) same in
    rw (same_action-equal (action_at a code) (action_at b code) parts.0, agreeing a b codes parts.1) refl

same_control-equal : (a b : List Action) → length a ≡ 32 → length b ≡ 32 → same_control a b ≡ true → a ≡ b
unfolding same_control
same_control-equal a b a_length b_length same = sym (each_action a a_length) ∙ agreeing a b all_codes same ∙ each_action b b_length

-- what is needed of the token of a control
pub record IsControlToken (control : List Action) (token : Token) : Type 0 where
  pub writes : written token ≡ control_text control
  pub sound : is_sound token ≡ true
  pub set : list_all is_set token.text ≡ true
  pub reads : control_of token.bracketed token.text ≡ Ok control
  pub no_include : is_word (codes "include") token ≡ false
  pub no_substack : is_word (codes "substack") token ≡ false

abbrev pub plain_token : List ℕ → Token
plain_token text = record { bracketed = false; text = text }

abbrev pub bracket_token : List ℕ → Token
bracket_token text = record { bracketed = true; text = text }

-- the token of a control, by the keyword that is short for it
abbrev pub token_by : List Action → Option (List ℕ) → Token
token_by control (Some word) = plain_token word
token_by control None = bracket_token (spaced (entries_among control all_codes))

unfoldable pub control_token : List Action → Token
control_token control = token_by control (keyword_of control)

record IsKeyword (control : List Action) (word : List ℕ) : Type 0 where
  sound : is_plain_text word ≡ true
  set : list_all is_set word ≡ true
  reads : control_of false word ≡ Ok control
  no_include : is_word (codes "include") (plain_token word) ≡ false
  no_substack : is_word (codes "substack") (plain_token word) ≡ false

first_of_two : {A : Type 0} (b : Bool) (x z : A) (rest : Option A) → cond b (Some x) rest ≡ Some z → ((b ≡ true) × (z ≡ x)) ⊎ (rest ≡ Some z)
first_of_two true x z rest is = let same : x ≡ z = cc in inl (refl, sym same)
first_of_two false x z rest is = inr is

keyword_is : (control : List Action) (word : List ℕ) → length control ≡ 32 → keyword_of control ≡ Some word → IsKeyword control word
keyword_is control word length_is found =
    elim (first_of_two (same_control control required) (codes "required") word _ found) [
      | inl h ↦ rw h.1 (record { sound = refl; set = refl; reads = ap Ok (sym (same_control-equal control required length_is refl h.0)); no_include = refl; no_substack = refl })
      | inr more ↦ elim (first_of_two (same_control control requisite) (codes "requisite") word _ more) [
        | inl h ↦ rw h.1 (record { sound = refl; set = refl; reads = ap Ok (sym (same_control-equal control requisite length_is refl h.0)); no_include = refl; no_substack = refl })
        | inr more' ↦ elim (first_of_two (same_control control sufficient) (codes "sufficient") word _ more') [
          | inl h ↦ rw h.1 (record { sound = refl; set = refl; reads = ap Ok (sym (same_control-equal control sufficient length_is refl h.0)); no_include = refl; no_substack = refl })
          | inr more'' ↦ elim (first_of_two (same_control control optional) (codes "optional") word None more'') [
            | inl h ↦ rw h.1 (record { sound = refl; set = refl; reads = ap Ok (sym (same_control-equal control optional length_is refl h.0)); no_include = refl; no_substack = refl })
            | inr none ↦ absurd cc
          ]
        ]
      ]
    ]

-- the bytes of entries
entry_bytes : (control : List Action) (code : Code) → is_fine (action_at control code) ≡ true → list_all is_word_byte (entry_text control code) ≡ true
entry_bytes control code fine =
    list_all-append is_word_byte (code_word code) (61 ∷ action_word (action_at control code))
    ∙ and_from (list_all is_word_byte (code_word code)) (list_all is_word_byte (61 ∷ action_word (action_at control code))) (code_word-bytes code) (action_reads (action_at control code) fine).word

after_bytes : (control : List Action) (codes : List Code) → list_all is_fine control ≡ true
    → list_all is_word_byte (flat_map after_space (map (entry_text control) codes)) ≡ true
after_bytes control [] fine = refl
after_bytes control (code ∷ codes) fine =
    list_all-append is_word_byte (entry_text control code) (flat_map after_space (map (entry_text control) codes))
    ∙ and_from (list_all is_word_byte (entry_text control code)) (list_all is_word_byte (flat_map after_space (map (entry_text control) codes))) (entry_bytes control code (fine_at control _ fine)) (after_bytes control codes fine)

spaced_bytes : (control : List Action) (codes : List Code) → list_all is_fine control ≡ true
    → list_all is_word_byte (spaced (map (entry_text control) codes)) ≡ true
spaced_bytes control [] fine = refl
spaced_bytes control (code ∷ codes) fine =
    list_all-append is_word_byte (entry_text control code) (flat_map after_space (map (entry_text control) codes))
    ∙ and_from (list_all is_word_byte (entry_text control code)) (list_all is_word_byte (flat_map after_space (map (entry_text control) codes))) (entry_bytes control code (fine_at control _ fine)) (after_bytes control codes fine)

entries_bytes : (control : List Action) (codes : List Code) → list_all is_fine control ≡ true
    → list_all is_word_byte (spaced (entries_among control codes)) ≡ true
unfolding entries_among
entries_bytes control codes fine = spaced_bytes control (filter (has_entry control) codes) fine

keyword_token : (control : List Action) (word : List ℕ) → keyword_of control ≡ Some word → IsKeyword control word → IsControlToken control (plain_token word)
unfolding control_text
keyword_token control word found is = record { writes = rw found refl; sound = is.sound; set = is.set; reads = is.reads; no_include = is.no_include; no_substack = is.no_substack }

bracketed_token : (control : List Action) → length control ≡ 32 → list_all is_fine control ≡ true → keyword_of control ≡ None
    → IsControlToken control (bracket_token (spaced (entries_among control all_codes)))
unfolding control_text
bracketed_token control length_is fine none =
    let text = spaced (entries_among control all_codes) in
    let bytes : list_all is_word_byte text ≡ true = entries_bytes control all_codes fine in
    record {
      writes = rw (none, unescaped text bytes) refl;
      sound = and_from (list_all is_inner text) (not (last_is 92 text)) (weaken is_word_byte is_inner (inner_by is_word_byte refl) text bytes) (not_from_false (last_is 92 text) (never_last is_word_byte 92 refl text bytes));
      set = weaken is_word_byte is_set (set_by is_word_byte refl) text bytes;
      reads = bracket_reads control length_is fine;
      no_include = refl;
      no_substack = refl;
    }

token_is : (control : List Action) (o : Option (List ℕ)) → length control ≡ 32 → list_all is_fine control ≡ true → keyword_of control ≡ o
    → IsControlToken control (token_by control o)
token_is control (Some word) length_is fine found = keyword_token control word found (keyword_is control word length_is found)
token_is control None length_is fine found = bracketed_token control length_is fine found

pub control_token_is : (control : List Action) → length control ≡ 32 → list_all is_fine control ≡ true → IsControlToken control (control_token control)
unfolding control_token
control_token_is control length_is fine = token_is control (keyword_of control) length_is fine refl

-- ---- types

pub record IsTypeToken (silent : Bool) (type : RuleType) : Type 0 where
  pub sound : is_plain_text (type_field silent type) ≡ true
  pub set : list_all is_set (type_field silent type) ≡ true
  pub no_include : is_word (codes "@include") (plain_token (type_field silent type)) ≡ false
  pub reads : type_field_of (plain_token (type_field silent type)) ≡ Some (record { silent = silent; rule_type = type })

pub type_token_is : (silent : Bool) (type : RuleType) → IsTypeToken silent type
type_token_is true Auth = record { sound = refl; set = refl; no_include = refl; reads = refl }
type_token_is true type = record { sound = refl; set = refl; no_include = refl; reads = refl }
type_token_is false Auth = record { sound = refl; set = refl; no_include = refl; reads = refl }
type_token_is false type = record { sound = refl; set = refl; no_include = refl; reads = refl }

-- ---- paths and arguments

-- what is known of the text of a token
abbrev pub can_stand : List ℕ → Bool
can_stand text = list_all is_inner text && list_all is_set text && not (wants_brackets text && last_is 92 text)

abbrev pub text_token : List ℕ → Token
text_token text = record { bracketed = wants_brackets text; text = text }

pub record IsTextToken (text : List ℕ) : Type 0 where
  pub writes : written (text_token text) ≡ token_text text
  pub sound : is_sound (text_token text) ≡ true
  pub set : list_all is_set text ≡ true

-- without brackets each byte is plain
no_end : (text : List ℕ) → list_any ends_token text ≡ false → list_all is_inner text ≡ true → list_all is_plain text ≡ true
no_end [] none inner = refl
no_end (b ∷ bs) none inner =
    let nones = or_parts (ends_token b) (list_any ends_token bs) none in
    let inners = and_parts (is_inner b) (list_all is_inner bs) inner in
    let here : is_plain b ≡ true = not_from_false (is_white b || eqb b 35 || eqb b 10) (or_from (is_white b || eqb b 35) (eqb b 10) nones.0 (not-true (eqb b 10) inners.0)) in
    and_from (is_plain b) (list_all is_plain bs) here (no_end bs nones.1 inners.1)

plain_sound : (text : List ℕ) → wants_brackets text ≡ false → list_all is_inner text ≡ true → is_plain_text text ≡ true
plain_sound [] none inner = absurd (true≢false none)
plain_sound (b ∷ bs) none inner =
    let parts = or_parts (eqb b 91) (list_any ends_token (b ∷ bs)) none in
    and_from (not (eqb b 91)) (list_all is_plain (b ∷ bs)) (not_from_false (eqb b 91) parts.0) (no_end (b ∷ bs) parts.1 inner)

not_both : (a b : Bool) → not (a && b) ≡ true → a ≡ true → b ≡ false
not_both true b is first = not-true b is
not_both false b is first = absurd (false≢true first)

by_brackets : (text : List ℕ) (bracketed : Bool) → wants_brackets text ≡ bracketed → list_all is_inner text ≡ true
    → not (wants_brackets text && last_is 92 text) ≡ true → cond bracketed (is_inner_text text) (is_plain_text text) ≡ true
by_brackets text true wants inner last = and_from (list_all is_inner text) (not (last_is 92 text)) inner (not_from_false (last_is 92 text) (not_both (wants_brackets text) (last_is 92 text) last wants))
by_brackets text false wants inner last = plain_sound text wants inner

pub text_token_is : (text : List ℕ) → can_stand text ≡ true → IsTextToken text
unfolding token_text
text_token_is text can =
    let outer = and_parts (list_all is_inner text && list_all is_set text) (not (wants_brackets text && last_is 92 text)) can in
    let parts = and_parts (list_all is_inner text) (list_all is_set text) outer.0 in
    record { writes = refl; sound = by_brackets text (wants_brackets text) refl parts.0 outer.1; set = parts.1 }
