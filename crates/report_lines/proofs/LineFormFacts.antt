-- A line is read as a form if and only if one is printed as the line.
use Rattle.std.proofs.Common.{◌≡◌, ℕ, ◌+◌, ◌-◌, ◌*◌, ◌%◌, ◌<◌, ◌^◌, lit<, Bool, true, false, ◌||◌, eqb, eqb-true, nat_lt, lt-ltb, ltb-true, if◌then◌else◌, List, [], ◌∷◌, ◌++◌, codes, Option, Some, None, refl, sym, ◌∙◌, ap, subst, arith, append_assoc}
use Rattle.std.specs.Char.{digit_value, is_ascii_digit}
use Rattle.std.specs.Prelude.{fold}
use Rattle.std.proofs.Math.Nat.{mod-lt}
use Rattle.std.specs.List.{list_all}
use Rattle.std.specs.Str.{bytes_eq}
use Rattle.std.specs.Fmt.{decimal}
use Rattle.std.proofs.lemmas.Slice.Eq.{bytes_eq-Decides}
use Rattle.pam_base.specs.declared.code.Code.TheVariants.{Abort}
use Rattle.pam_base.specs.declared.fault.FaultKind.{FaultKind}
use Rattle.pam_base.specs.declared.fault.ScriptKind.{ScriptKind}
use Rattle.pam_base.specs.declared.style.Style.{Style}
use Rattle.pam_base.specs.Bytes.{has_byte}
use Rattle.pam_base.specs.Code.{number_of, name_of}
use Rattle.pam_base.specs.Fault.{fault_number, fault_name, script_fault_number, script_fault_name}
use Rattle.pam_base.specs.Quote.{quoted_text}
use Rattle.pam_base.specs.Style.{style_number}
use Rattle.script_lang.specs.Command.{word_of_func}
use Rattle.report_lines.specs.Line.{ToldLine, told_message, told_visit, told_cleanup, told_wait, told_missing, told_variable, Shown, shows_code, shows_fault, shows_value, shows_count, shows_not_open, shows_already_open, shows_bad_number, shows_pending, Result, answered, closed_by_program, Last, unread, refused_at, command_word, number_words, code_words, status_words, shown_words, script_text, AreBytes, IsSeen, IsVariable, IsTold, IsShown, IsResult, IsLast}
use Rattle.report_lines.specs.Says.{Says, tells, results, lasts, says_text, IsSays, ReadAs, ReadsLines}
use Rattle.report_lines.specs.Words.{before_space, after_space, before_last, last_word, guessed_number, guessed_code, guessed_script_fault, guessed_func, guessed_command, unquoted}
use Rattle.report_lines.specs.Guess.{guessed_message, guessed_seen, guessed_cleanup, guessed_wait, guessed_told, guessed_refusal, guessed_answer, by_keyword, guessed_result, guessed_shown, guessed_last, has_form, if_printed, told_or, read_numbered, read_line}
use Rattle.report_lines.proofs.WordCutFacts.{before_space-word, after_space-word, has-append}
use Rattle.report_lines.proofs.Numbers.{Numeral, writes, numbered, status_read}
use Rattle.report_lines.proofs.QuotedTextFacts.{unquoted_bytes, quoted_line}
use Rattle.report_lines.proofs.Known.{known_code, known_fault, known_script, known_style, known_func, known_command}
use Rattle.report_lines.proofs.Forms.{line_of, told_word, told_words, told_ends, FoundTold, told_is, result_word, result_words, result_ends, shown_is, small_code}

-- ---- what is printed as the line is found

no_more : (xs : List ℕ) → [] ≡ xs ++ 10 ∷ [] → ⊥
no_more [] is = cc
no_more (x ∷ xs) is = cc

pub cut_newline : (xs ys : List ℕ) → xs ++ 10 ∷ [] ≡ ys ++ 10 ∷ [] → xs ≡ ys
cut_newline [] [] is = refl
cut_newline [] (y ∷ ys) is = absurd (no_more ys (let e : [] ≡ ys ++ 10 ∷ [] = cc in e))
cut_newline (x ∷ xs) [] is = absurd (no_more xs (let e : [] ≡ xs ++ 10 ∷ [] = cc in e))
cut_newline (x ∷ xs) (y ∷ ys) is =
    let first : x ≡ y = cc in
    let rest : xs ++ 10 ∷ [] ≡ ys ++ 10 ∷ [] = cc in
    let more : xs ≡ ys = cut_newline xs ys rest in
    cc

printed : (line : List ℕ) (s : Says) → says_text s ≡ line ++ 10 ∷ [] → if_printed line s ≡ Some s
unfolding if_printed
printed line s is = ap (λ (b : Bool). if b then Some s else None) ((bytes_eq-Decides (says_text s) (line ++ 10 ∷ [])).1 is)

record Printed (line : List ℕ) (s found : Says) : Type 0 where
  is : s ≡ found
  text : says_text s ≡ line ++ 10 ∷ []

printed_if : (line : List ℕ) (s found : Says) (b : Bool) → bytes_eq (says_text s) (line ++ 10 ∷ []) ≡ b → (if b then Some s else None) ≡ Some found → Printed line s found
printed_if line s found true eq is = record { is = cc; text = (bytes_eq-Decides (says_text s) (line ++ 10 ∷ [])).0 eq }
printed_if line s found false eq is = absurd (cc)

printed_back : (line : List ℕ) (s found : Says) → if_printed line s ≡ Some found → Printed line s found
unfolding if_printed
printed_back line s found is = printed_if line s found (bytes_eq (says_text s) (line ++ 10 ∷ [])) refl is

-- ---- a line of a number

numbered_line : (number : ℕ) (word words : List ℕ) → number < 2 ^ 32 → has_byte 32 word ≡ false →
    read_line (line_of number word words) ≡ told_or (line_of number word words) number (guessed_told word words) (guessed_result word words)
numbered_line number word words small one =
    let n : Numeral number (decimal number) = writes number (omega arith) in
    let line : List ℕ = line_of number word words in
    let rest : List ℕ = word ++ 32 ∷ words in
    let first : before_space line ≡ decimal number = before_space-word (decimal number) rest n.one in
    let the_rest : after_space line ≡ rest = after_space-word (decimal number) rest n.one in
    ap (λ (x : List ℕ). if list_all is_ascii_digit x then read_numbered line (guessed_number x) (before_space (after_space line)) (after_space (after_space line)) else if_printed line (lasts (guessed_last line))) first
    ∙ ap (λ (b : Bool). if b then read_numbered line (guessed_number (decimal number)) (before_space (after_space line)) (after_space (after_space line)) else if_printed line (lasts (guessed_last line))) n.all
    ∙ ap (λ (x : ℕ). read_numbered line x (before_space (after_space line)) (after_space (after_space line))) n.value
    ∙ ap (λ (x : List ℕ). read_numbered line number (before_space x) (after_space x)) the_rest
    ∙ ap (λ (x : List ℕ). read_numbered line number x (after_space rest)) (before_space-word word words one)
    ∙ ap (λ (x : List ℕ). read_numbered line number word x) (after_space-word word words one)
    ∙ ap (λ (b : Bool). if b then told_or line number (guessed_told word words) (guessed_result word words) else None) (lt-ltb number (2 ^ 32) small)

told_one : (t : ToldLine) → has_byte 32 (told_word t) ≡ false
told_one (told_message style text) = refl
told_one (told_visit v) = refl
told_one (told_cleanup c) = refl
told_one (told_wait code asked wait) = refl
told_one (told_missing name) = refl
told_one (told_variable variable) = refl

told_read : (number : ℕ) (t : ToldLine) → number < 2 ^ 32 → IsTold t → ReadAs (read_line (line_of number (told_word t) (told_words t))) (tells number t)
told_read number t small is =
    let f : FoundTold number t = told_is number t is in
    let line : List ℕ = line_of number (told_word t) (told_words t) in
    record {
      found = tells number f.found;
      is = numbered_line number (told_word t) (told_words t) small (told_one t)
          ∙ ap (λ (x : Option ToldLine). told_or line number x (guessed_result (told_word t) (told_words t))) f.is
          ∙ ap (λ (b : Bool). if b then if_printed line (tells number f.found) else None) f.formed ∙ printed line (tells number f.found) (f.text ∙ told_ends number t);
      same = ap (tells number) f.same;
    }

result_read : (number : ℕ) (r : Result) → number < 2 ^ 32 → IsResult r → ReadAs (read_line (line_of number (result_word r) (result_words r))) (results number r)
result_read number (answered command shown) small is =
    let k = known_command command in
    let words : List ℕ = result_words (answered command shown) in
    let line : List ℕ = line_of number (command_word command) words in
    record {
      found = results number (answered command shown);
      is = numbered_line number (command_word command) words small k.one
          ∙ ap (λ (x : Option ToldLine). told_or line number x (guessed_result (command_word command) words)) (k.told words)
          ∙ ap (λ (x : Result). if_printed line (results number x)) (k.back words ∙ ap (answered command) (shown_is shown is))
          ∙ printed line (results number (answered command shown)) (result_ends number (answered command shown));
      same = refl;
    }
result_read number (closed_by_program code) small is =
    let k = known_code code in
    let words : List ℕ = result_words (closed_by_program code) in
    let line : List ℕ = line_of number (codes "closed") words in
    record {
      found = results number (closed_by_program code);
      is = numbered_line number (codes "closed") words small refl
          ∙ ap (λ (x : List ℕ). if_printed line (results number (closed_by_program (guessed_code x)))) (before_space-word (name_of code) (decimal (number_of code)) k.one)
          ∙ ap (λ (x : _). if_printed line (results number (closed_by_program x))) k.back
          ∙ printed line (results number (closed_by_program code)) (result_ends number (closed_by_program code));
      same = refl;
    }

-- ---- the last line

small_style : (k : Style) → Numeral (style_number k) (decimal (style_number k))
small_style k = let few : style_number k < 64 = ltb-true (style_number k) 64 (known_style k).small in writes (style_number k) (omega arith)

small_fault : (k : FaultKind) → Numeral (fault_number k) (decimal (fault_number k))
small_fault k = let few : fault_number k < 64 = ltb-true (fault_number k) 64 (known_fault k).small in writes (fault_number k) (omega arith)

small_script : (k : ScriptKind) → Numeral (script_fault_number k) (decimal (script_fault_number k))
small_script k = let few : script_fault_number k < 64 = ltb-true (script_fault_number k) 64 (known_script k).small in writes (script_fault_number k) (omega arith)

abbrev script_words : ℕ → ScriptKind → List ℕ
script_words n kind = number_words n ++ 32 ∷ (script_fault_name kind ++ 32 ∷ decimal (script_fault_number kind))

script_ends : (n : ℕ) (kind : ScriptKind) → script_text n kind ≡ (codes "script " ++ script_words n kind) ++ 10 ∷ []
script_ends n kind = simp append_assoc

script_is : (n : ℕ) (kind : ScriptKind) → n < 2 ^ 64 → guessed_last (codes "script " ++ script_words n kind) ≡ refused_at n kind
script_is n kind lt =
    let w : Numeral n (number_words n) = numbered n lt in
    let k = known_script kind in
    let rest : List ℕ = script_fault_name kind ++ 32 ∷ decimal (script_fault_number kind) in
    ap (λ (x : List ℕ). refused_at (guessed_number x) (guessed_script_fault (before_space (after_space (script_words n kind))))) (before_space-word (number_words n) rest w.one)
    ∙ ap (λ (x : ℕ). refused_at x (guessed_script_fault (before_space (after_space (script_words n kind))))) w.value
    ∙ ap (λ (x : List ℕ). refused_at n (guessed_script_fault (before_space x))) (after_space-word (number_words n) rest w.one)
    ∙ ap (λ (x : List ℕ). refused_at n (guessed_script_fault x)) (before_space-word (script_fault_name kind) (decimal (script_fault_number kind)) k.one) ∙ ap (refused_at n) k.back

-- ---- the line of a form

abbrev last_line : Last → List ℕ
last_line unread = codes "read fault"
last_line (refused_at n kind) = codes "script " ++ script_words n kind

abbrev says_line : Says → List ℕ
says_line (tells number t) = line_of number (told_word t) (told_words t)
says_line (results number r) = line_of number (result_word r) (result_words r)
says_line (lasts last) = last_line last

ends : (s : Says) → says_text s ≡ says_line s ++ 10 ∷ []
ends (tells number t) = told_ends number t
ends (results number r) = result_ends number r
ends (lasts unread) = refl
ends (lasts (refused_at n kind)) = script_ends n kind

read_says : (s : Says) → IsSays s → ReadAs (read_line (says_line s)) s
read_says (tells number t) is = told_read number t is.0 is.1
read_says (results number r) is = result_read number r is.0 is.1
read_says (lasts unread) is = record { found = lasts unread; is = printed (codes "read fault") (lasts unread) refl; same = refl }
read_says (lasts (refused_at n kind)) is = record {
  found = lasts (refused_at n kind);
  is = ap (λ (x : Last). if_printed (last_line (refused_at n kind)) (lasts x)) (script_is n kind is) ∙ printed (last_line (refused_at n kind)) (lasts (refused_at n kind)) (script_ends n kind);
  same = refl;
}

-- ---- it is one line

abbrev lacks : List ℕ → Type 0
lacks word = has_byte 10 word ≡ false

spaced : (one two : List ℕ) → lacks one → lacks two → lacks (one ++ 32 ∷ two)
spaced one two first second = has-append 10 one (32 ∷ two) first second

code_line : (code : _) → lacks (name_of code ++ 32 ∷ decimal (number_of code))
code_line code = spaced (name_of code) (decimal (number_of code)) (known_code code).line (small_code code).line

word_line : (t : ToldLine) → lacks (told_word t)
word_line (told_message style text) = refl
word_line (told_visit v) = refl
word_line (told_cleanup c) = refl
word_line (told_wait code asked wait) = refl
word_line (told_missing name) = refl
word_line (told_variable variable) = refl

told_line : (t : ToldLine) → IsTold t → lacks (told_words t)
told_line (told_message style text) is = spaced (decimal (style_number style)) (quoted_text text) (small_style style).line (quoted_line text)
told_line (told_visit v) is = spaced (number_words v.place) (quoted_text v.name ++ 32 ∷ (name_of v.answer ++ 32 ∷ decimal (number_of v.answer))) (numbered v.place is.place).line
    (spaced (quoted_text v.name) (name_of v.answer ++ 32 ∷ decimal (number_of v.answer)) (quoted_line v.name) (code_line v.answer))
told_line (told_cleanup c) is = spaced (number_words c.id) (status_words c.status ++ 32 ∷ (number_words c.note ++ 32 ∷ (quoted_text c.owner ++ 32 ∷ quoted_text c.datum))) (numbered c.id is.0).line
    (spaced (status_words c.status) (number_words c.note ++ 32 ∷ (quoted_text c.owner ++ 32 ∷ quoted_text c.datum)) (status_read c.status is.1).line
    (spaced (number_words c.note) (quoted_text c.owner ++ 32 ∷ quoted_text c.datum) (numbered c.note is.2).line (spaced (quoted_text c.owner) (quoted_text c.datum) (quoted_line c.owner) (quoted_line c.datum))))
told_line (told_wait code asked wait) is = spaced (name_of code) (decimal (number_of code) ++ 32 ∷ (number_words asked ++ 32 ∷ number_words wait)) (known_code code).line
    (spaced (decimal (number_of code)) (number_words asked ++ 32 ∷ number_words wait) (small_code code).line (spaced (number_words asked) (number_words wait) (numbered asked is.0).line (numbered wait is.1).line))
told_line (told_missing name) is = spaced (codes "missing") (quoted_text name) refl (quoted_line name)
told_line (told_variable variable) is = quoted_line variable

shown_line : (shown : Shown) → IsShown shown → lacks (shown_words shown)
shown_line (shows_code code) is = code_line code
shown_line (shows_fault fault) is =
    spaced (codes "refused") (quoted_text fault.file ++ 32 ∷ (number_words fault.line ++ 32 ∷ (fault_name fault.kind ++ 32 ∷ decimal (fault_number fault.kind)))) refl
    (spaced (quoted_text fault.file) (number_words fault.line ++ 32 ∷ (fault_name fault.kind ++ 32 ∷ decimal (fault_number fault.kind))) (quoted_line fault.file)
    (spaced (number_words fault.line) (fault_name fault.kind ++ 32 ∷ decimal (fault_number fault.kind)) (numbered fault.line is.1).line
    (spaced (fault_name fault.kind) (decimal (fault_number fault.kind)) (known_fault fault.kind).line (small_fault fault.kind).line)))
shown_line (shows_value (Some text)) is = spaced (codes "set") (quoted_text text) refl (quoted_line text)
shown_line (shows_value None) is = refl
shown_line (shows_count n) is = (numbered n is).line
shown_line shows_not_open is = refl
shown_line shows_already_open is = refl
shown_line shows_bad_number is = refl
shown_line (shows_pending func) is =
    has-append 10 (name_of Abort ++ 32 ∷ decimal (number_of Abort)) (codes " pending " ++ word_of_func func) (code_line Abort) (has-append 10 (codes " pending ") (word_of_func func) refl (known_func func).line)

number_line : (number : ℕ) (word words : List ℕ) → number < 2 ^ 32 → lacks word → lacks words → lacks (line_of number word words)
number_line number word words small first second =
    spaced (decimal number) (word ++ 32 ∷ words) (writes number (let large : number < 2 ^ 64 = omega arith in large)).line (spaced word words first second)

one_line : (s : Says) → IsSays s → lacks (says_line s)
one_line (tells number t) is = number_line number (told_word t) (told_words t) is.0 (word_line t) (told_line t is.1)
one_line (results number (answered command shown)) is = number_line number (command_word command) (shown_words shown) is.0 (known_command command).line (shown_line shown is.1)
one_line (results number (closed_by_program code)) is = number_line number (codes "closed") (code_words code) is.0 refl (code_line code)
one_line (lasts unread) is = refl
one_line (lasts (refused_at n kind)) is =
    spaced (codes "script") (script_words n kind) refl
    (spaced (number_words n) (script_fault_name kind ++ 32 ∷ decimal (script_fault_number kind)) (numbered n is).line (spaced (script_fault_name kind) (decimal (script_fault_number kind)) (known_script kind).line (small_script kind).line))

-- ---- what is read is in its ranges

fold_long : (word : List ℕ) (v : ℕ) → v < 2 ^ 64 → fold (λ (value digit : ℕ). (value * 10 % 2 ^ 64 + (digit - 48)) % 2 ^ 64) v word < 2 ^ 64
fold_long [] v lt = lt
fold_long (c ∷ word) v lt = fold_long word ((v * 10 % 2 ^ 64 + (c - 48)) % 2 ^ 64) (mod-lt (v * 10 % 2 ^ 64 + (c - 48)) (lit< tt))

long : (word : List ℕ) → guessed_number word < 2 ^ 64
long word = fold_long word 0 (lit< tt)

fold_short : (word : List ℕ) (v : ℕ) → v < 2 ^ 32 → fold (λ (value digit : ℕ). (value * 16 % 2 ^ 32 + digit_value digit) % 2 ^ 32) v word < 2 ^ 32
fold_short [] v lt = lt
fold_short (c ∷ word) v lt = fold_short word ((v * 16 % 2 ^ 32 + digit_value c) % 2 ^ 32) (mod-lt (v * 16 % 2 ^ 32 + digit_value c) (lit< tt))

before_if : (b : ℕ) (text : List ℕ) (c : Bool) → b < 256 → AreBytes (before_space text) → AreBytes (if c then [] else b ∷ before_space text)
before_if b text true lt more = tt
before_if b text false lt more = (lt, more)

before_bytes : (text : List ℕ) → AreBytes text → AreBytes (before_space text)
before_bytes [] all = tt
before_bytes (b ∷ text) all = before_if b text (eqb b 32) all.0 (before_bytes text all.1)

after_if : (text : List ℕ) (c : Bool) → AreBytes text → AreBytes (after_space text) → AreBytes (if c then text else after_space text)
after_if text true all more = all
after_if text false all more = more

after_bytes : (text : List ℕ) → AreBytes text → AreBytes (after_space text)
after_bytes [] all = tt
after_bytes (b ∷ text) all = after_if text (eqb b 32) all.1 (after_bytes text all.1)

record Parts (text : List ℕ) : Type 0 where
  name : List ℕ
  value : List ℕ
  is : text ≡ name ++ 61 ∷ value

parts_if : (b : ℕ) (text : List ℕ) (c : Bool) → eqb b 61 ≡ c → (has_byte 61 text ≡ true → Parts text) → (c || has_byte 61 text) ≡ true → Parts (b ∷ text)
parts_if b text true is more has = record { name = []; value = text; is = ap (λ (n : ℕ). n ∷ text) (eqb-true b 61 is) }
parts_if b text false is more has = let p : Parts text = more has in record { name = b ∷ p.name; value = p.value; is = ap (λ (t : List ℕ). b ∷ t) p.is }

parts : (text : List ℕ) → has_byte 61 text ≡ true → Parts text
parts [] has = absurd (cc)
parts (b ∷ text) has = parts_if b text (eqb b 61) refl (parts text) has

variable_is : (text : List ℕ) → AreBytes text → has_byte 61 text ≡ true → IsVariable text
variable_is text all has = let p : Parts text = parts text has in record { name = p.name; value = p.value; is = p.is; bytes = all }

unquoted_all : (text : List ℕ) → AreBytes (unquoted text)
unquoted_all text = (unquoted_bytes text).0

some_same : (x t : ToldLine) → Some x ≡ Some t → x ≡ t
some_same x t is = cc

cleanup_range : (words : List ℕ) → IsTold (told_cleanup (guessed_cleanup words))
cleanup_range words =
    let names : List ℕ = unquoted (after_space (after_space (after_space words))) in
    let all : AreBytes names = unquoted_all (after_space (after_space (after_space words))) in
    (long (before_space words), fold_short (before_space (after_space words)) 0 (lit< tt), long (before_space (after_space (after_space words))), before_bytes names all, after_bytes names all)

told_by : (words : List ℕ) (a b c d e f : Bool) (t : ToldLine) →
    (if a then Some (guessed_message words) else if b then Some (told_visit (guessed_seen words)) else if c then Some (told_cleanup (guessed_cleanup words)) else if d then Some (guessed_wait words) else if e then Some (told_missing (unquoted (after_space words))) else if f then Some (told_variable (unquoted words)) else None) ≡ Some t
    → has_form t ≡ true → IsTold t
told_by words true b c d e f t is formed = subst IsTold (some_same (guessed_message words) t is) (unquoted_all (after_space words))
told_by words false true c d e f t is formed =
    subst IsTold (some_same (told_visit (guessed_seen words)) t is) (let s : IsSeen (guessed_seen words) = record { place = long (before_space words); name = unquoted_all (before_last (before_last (after_space words))) } in s)
told_by words false false true d e f t is formed = subst IsTold (some_same (told_cleanup (guessed_cleanup words)) t is) (cleanup_range words)
told_by words false false false true e f t is formed =
    subst IsTold (some_same (guessed_wait words) t is) (long (before_space (after_space (after_space words))), long (after_space (after_space (after_space words))))
told_by words false false false false true f t is formed = subst IsTold (some_same (told_missing (unquoted (after_space words))) t is) (unquoted_all (after_space words))
told_by words false false false false false true t is formed =
    let same : told_variable (unquoted words) ≡ t = some_same (told_variable (unquoted words)) t is in
    subst IsTold same (variable_is (unquoted words) (unquoted_all words) (ap has_form same ∙ formed))
told_by words false false false false false false t is formed = absurd (cc)

told_range : (word words : List ℕ) (t : ToldLine) → guessed_told word words ≡ Some t → has_form t ≡ true → IsTold t
told_range word words t is formed =
    told_by words (bytes_eq word (codes "say")) (bytes_eq word (codes "line")) (bytes_eq word (codes "clean")) (bytes_eq word (codes "wait")) (bytes_eq word (codes "note")) (bytes_eq word (codes "env")) t is formed

answer_if : (words the_rest : List ℕ) (a : Bool) → IsShown (if a then shows_pending (guessed_func (after_space the_rest)) else shows_code (guessed_code (before_space words)))
answer_if words the_rest true = tt
answer_if words the_rest false = tt

keyword_if : (words : List ℕ) (a b c d e f : Bool) →
    IsShown (if a then shows_fault (guessed_refusal (after_space words)) else if b then shows_value (Some (unquoted (after_space words))) else if c then shows_value None else if d then shows_not_open else if e then shows_already_open else if f then shows_bad_number else guessed_answer words)
keyword_if words true b c d e f = (unquoted_all (before_last (before_last (before_last (after_space words)))), long (last_word (before_last (before_last (after_space words)))))
keyword_if words false true c d e f = unquoted_all (after_space words)
keyword_if words false false true d e f = tt
keyword_if words false false false true e f = tt
keyword_if words false false false false true f = tt
keyword_if words false false false false false true = tt
keyword_if words false false false false false false = answer_if words (after_space (after_space words)) (bytes_eq (before_space (after_space (after_space words))) (codes "pending"))

by_if : (word words : List ℕ) (a : Bool) → IsShown (if a then shows_count (guessed_number word) else by_keyword word words)
by_if word words true = long word
by_if word words false = keyword_if words (bytes_eq word (codes "refused")) (bytes_eq word (codes "set")) (bytes_eq word (codes "unset")) (bytes_eq word (codes "not")) (bytes_eq word (codes "already")) (bytes_eq word (codes "bad"))

result_if : (word words : List ℕ) (a : Bool) → IsResult (if a then closed_by_program (guessed_code (before_space words)) else answered (guessed_command word) (guessed_shown words))
result_if word words true = tt
result_if word words false = by_if (before_space words) words (list_all is_ascii_digit (before_space words))

last_if : (words : List ℕ) (a : Bool) → IsLast (Some (if a then unread else refused_at (guessed_number (before_space words)) (guessed_script_fault (before_space (after_space words)))))
last_if words true = tt
last_if words false = long (before_space words)

-- ---- so what is read is printed as the line

record Sound (line : List ℕ) (s : Says) : Type 0 where
  text : says_text s ≡ line ++ 10 ∷ []
  range : IsSays s

sound_from : (line : List ℕ) (s found : Says) → IsSays s → if_printed line s ≡ Some found → Sound line found
sound_from line s found range is =
    let p : Printed line s found = printed_back line s found is in
    record { text = subst (λ (x : Says). says_text x ≡ line ++ 10 ∷ []) p.is p.text; range = subst IsSays p.is range }

form_if : (line : List ℕ) (number : ℕ) (t : ToldLine) (found : Says) (b : Bool) → number < 2 ^ 32 → (b ≡ true → IsTold t) → (if b then if_printed line (tells number t) else None) ≡ Some found → Sound line found
form_if line number t found true small range is = sound_from line (tells number t) found (small, range refl) is
form_if line number t found false small range is = absurd (cc)

told_or_if : (line : List ℕ) (number : ℕ) (o : Option ToldLine) (r : Result) (found : Says) → number < 2 ^ 32 → ((t : ToldLine) → o ≡ Some t → has_form t ≡ true → IsTold t) → IsResult r → told_or line number o r ≡ Some found → Sound line found
told_or_if line number (Some t) r found small told result is = form_if line number t found (has_form t) small (λ f. told t refl f) is
told_or_if line number None r found small told result is = sound_from line (results number r) found (small, result) is

number_if : (line : List ℕ) (number : ℕ) (word words : List ℕ) (found : Says) (b : Bool) → nat_lt number (2 ^ 32) ≡ b → (if b then told_or line number (guessed_told word words) (guessed_result word words) else None) ≡ Some found → Sound line found
number_if line number word words found true lt is =
    told_or_if line number (guessed_told word words) (guessed_result word words) found (ltb-true number (2 ^ 32) lt) (told_range word words) (result_if word words (bytes_eq word (codes "closed"))) is
number_if line number word words found false lt is = absurd (cc)

line_if : (line : List ℕ) (found : Says) (b : Bool) →
    (if b then read_numbered line (guessed_number (before_space line)) (before_space (after_space line)) (after_space (after_space line)) else if_printed line (lasts (guessed_last line))) ≡ Some found → Sound line found
line_if line found true is =
    number_if line (guessed_number (before_space line)) (before_space (after_space line)) (after_space (after_space line)) found (nat_lt (guessed_number (before_space line)) (2 ^ 32)) refl is
line_if line found false is = sound_from line (lasts (guessed_last line)) found (last_if (after_space line) (bytes_eq line (codes "read fault"))) is

pub reads_lines : ReadsLines read_line
reads_lines = record {
  sound = λ line s is. let p : Sound line s = line_if line s (list_all is_ascii_digit (before_space line)) is in (p.text, p.range);
  complete = λ line s text is.
      let same : says_line s ≡ line = cut_newline (says_line s) line (sym (ends s) ∙ text) in
      subst (λ (l : List ℕ). ReadAs (read_line l) s) same (read_says s is);
  lines = λ s is. record { line = says_line s; is = ends s; one = one_line s is };
}
