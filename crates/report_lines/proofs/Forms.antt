-- Each form as a line: its words, and what is guessed of them.
use Rattle.std.proofs.Common.{◌≡◌, ℕ, ◌<◌, ◌^◌, Bool, true, false, ◌||◌, eqb, if◌then◌else◌, List, [], ◌∷◌, ◌++◌, codes, Some, None, refl, sym, ◌∙◌, ap, arith, ltb-true, append_assoc, eq-eqb}
use Rattle.std.specs.Fmt.{decimal}
use Rattle.pam_base.specs.declared.code.Code.{Code}
use Rattle.pam_base.specs.declared.code.Code.TheVariants.{Abort}
use Rattle.pam_base.specs.declared.call.Func.{Func}
use Rattle.pam_base.specs.declared.fault.FaultKind.{FaultKind}
use Rattle.pam_base.specs.declared.style.Style.{Style}
use Rattle.pam_base.specs.Bytes.{has_byte}
use Rattle.pam_base.specs.Code.{number_of, name_of}
use Rattle.pam_base.specs.Fault.{fault_number, fault_name}
use Rattle.pam_base.specs.Quote.{quoted_text}
use Rattle.pam_base.specs.Style.{style_number}
use Rattle.script_lang.specs.Command.{word_of_func}
use Rattle.service_load.specs.declared.load_fault.LoadFault.{LoadFault}
use Rattle.service_load.specs.FirstFault.{fault_at}
use Rattle.handler_chain.specs.Retell.{RecordedLine, seen_at}
use Rattle.report_lines.specs.Line.{Cleanup, ToldLine, told_message, told_visit, told_cleanup, told_wait, told_missing, told_variable, Shown, shows_code, shows_fault, shows_value, shows_count, shows_not_open, shows_already_open, shows_bad_number, shows_pending, Result, answered, closed_by_program, command_word, number_words, code_words, status_words, shown_words, refused_words, pending_words, told_text, result_text, AreBytes, IsSeen, IsTold, IsShown}
use Rattle.report_lines.specs.Says.{bare_told}
use Rattle.report_lines.specs.Words.{before_space, after_space, last_word, before_last, guessed_number, guessed_status, unquoted, guessed_code, guessed_style, guessed_fault}
use Rattle.report_lines.specs.Guess.{guessed_message, guessed_seen, guessed_cleanup, guessed_wait, guessed_told, guessed_by, guessed_shown, answer_by, by_keyword, has_form}
use Rattle.report_lines.proofs.WordCutFacts.{before_space-word, after_space-word, before_space-all, after_space-all, cut_again, last_word-cut, before_last-cut}
use Rattle.report_lines.proofs.Numbers.{Numeral, writes, numbered, Status, status_read}
use Rattle.report_lines.proofs.QuotedTextFacts.{unquoted-quoted, quoted-append}
use Rattle.report_lines.proofs.Known.{KnownCode, known_code, KnownFault, known_fault, KnownStyle, known_style, known_func}

-- ---- the words of a form

-- a line before a result: its own word and those after it
abbrev pub told_word : ToldLine → List ℕ
told_word (told_message style text) = codes "say"
told_word (told_visit v) = codes "line"
told_word (told_cleanup c) = codes "clean"
told_word (told_wait code asked wait) = codes "wait"
told_word (told_missing name) = codes "note"
told_word (told_variable variable) = codes "env"

abbrev code_part : Code → List ℕ
code_part code = name_of code ++ 32 ∷ decimal (number_of code)

abbrev pub told_words : ToldLine → List ℕ
told_words (told_message style text) = decimal (style_number style) ++ 32 ∷ quoted_text text
told_words (told_visit v) = number_words v.place ++ 32 ∷ (quoted_text v.name ++ 32 ∷ (name_of v.answer ++ 32 ∷ decimal (number_of v.answer)))
told_words (told_cleanup c) = number_words c.id ++ 32 ∷ (status_words c.status ++ 32 ∷ (number_words c.note ++ 32 ∷ (quoted_text c.owner ++ 32 ∷ quoted_text c.datum)))
told_words (told_wait code asked wait) = name_of code ++ 32 ∷ (decimal (number_of code) ++ 32 ∷ (number_words asked ++ 32 ∷ number_words wait))
told_words (told_missing name) = codes "missing" ++ 32 ∷ quoted_text name
told_words (told_variable variable) = quoted_text variable

-- H WORD WORDS
abbrev pub line_of : ℕ → List ℕ → List ℕ → List ℕ
line_of number word words = decimal number ++ 32 ∷ (word ++ 32 ∷ words)

pub told_ends : (number : ℕ) (t : ToldLine) → told_text number t ≡ line_of number (told_word t) (told_words t) ++ 10 ∷ []
told_ends number (told_message style text) = simp append_assoc
told_ends number (told_visit v) = simp append_assoc
told_ends number (told_cleanup c) = simp append_assoc
told_ends number (told_wait code asked wait) = simp append_assoc
told_ends number (told_missing name) = simp append_assoc
told_ends number (told_variable variable) = simp append_assoc

-- ---- what is guessed of what is reported

pub small_code : (c : Code) → Numeral (number_of c) (decimal (number_of c))
small_code c = let few : number_of c < 64 = ltb-true (number_of c) 64 (known_code c).small in writes (number_of c) (omega arith)

message_is : (style : Style) (text : List ℕ) → AreBytes text → guessed_message (told_words (told_message style text)) ≡ told_message style text
message_is style text bytes =
    let k : KnownStyle style = known_style style in
    let few : style_number style < 64 = ltb-true (style_number style) 64 k.small in
    let n : Numeral (style_number style) (decimal (style_number style)) = writes (style_number style) (omega arith) in
    ap (λ (x : List ℕ). told_message (guessed_style (guessed_number x)) (unquoted (after_space (told_words (told_message style text))))) (before_space-word (decimal (style_number style)) (quoted_text text) n.one)
    ∙ ap (λ (x : List ℕ). told_message (guessed_style (guessed_number (decimal (style_number style)))) (unquoted x)) (after_space-word (decimal (style_number style)) (quoted_text text) n.one)
    ∙ ap (λ (x : ℕ). told_message (guessed_style x) (unquoted (quoted_text text))) n.value ∙ ap (λ (x : Style). told_message x (unquoted (quoted_text text))) k.back
    ∙ ap (λ (x : List ℕ). told_message style x) (unquoted-quoted text bytes)

-- three words, from the end
regrouped : (q w d : List ℕ) → q ++ 32 ∷ (w ++ 32 ∷ d) ≡ (q ++ 32 ∷ w) ++ 32 ∷ d
regrouped q w d = sym (append_assoc q (32 ∷ w) (32 ∷ d))

seen_is : (v : RecordedLine) → IsSeen v → guessed_seen (told_words (told_visit v)) ≡ v
seen_is v is =
    let k : KnownCode v.answer = known_code v.answer in
    let p : Numeral v.place (number_words v.place) = numbered v.place is.place in
    let d = small_code v.answer in
    let q : List ℕ = quoted_text v.name in
    let w : List ℕ = name_of v.answer in
    let tail : List ℕ = q ++ 32 ∷ (w ++ 32 ∷ decimal (number_of v.answer)) in
    let words : List ℕ = number_words v.place ++ 32 ∷ tail in
    let named : before_last (after_space words) ≡ q ++ 32 ∷ w =
    ap before_last (after_space-word (number_words v.place) tail p.one ∙ regrouped q w (decimal (number_of v.answer))) ∙ before_last-cut (q ++ 32 ∷ w) (decimal (number_of v.answer)) d.one in
    ap (λ (x : List ℕ). seen_at (guessed_number (before_space words)) (unquoted (before_last x)) (guessed_code (last_word x))) named
    ∙ ap (λ (x : List ℕ). seen_at (guessed_number x) (unquoted (before_last (q ++ 32 ∷ w))) (guessed_code (last_word (q ++ 32 ∷ w)))) (before_space-word (number_words v.place) tail p.one)
    ∙ ap (λ (x : ℕ). seen_at x (unquoted (before_last (q ++ 32 ∷ w))) (guessed_code (last_word (q ++ 32 ∷ w)))) p.value
    ∙ ap (λ (x : List ℕ). seen_at v.place (unquoted x) (guessed_code (last_word (q ++ 32 ∷ w)))) (before_last-cut q w k.one)
    ∙ ap (λ (x : List ℕ). seen_at v.place (unquoted q) (guessed_code x)) (last_word-cut q w k.one)
    ∙ ap (λ (x : List ℕ). seen_at v.place x (guessed_code w)) (unquoted-quoted v.name is.name) ∙ ap (λ (x : Code). seen_at v.place v.name x) k.back

-- the names of a cleanup, cut again
abbrev recut : Cleanup → Cleanup
recut c = record { id = c.id; status = c.status; note = c.note; owner = before_space (c.owner ++ 32 ∷ c.datum); datum = after_space (c.owner ++ 32 ∷ c.datum) }

bytes_two : (one two : List ℕ) → AreBytes one → AreBytes two → AreBytes (one ++ two)
bytes_two [] two first second = second
bytes_two (b ∷ one) two first second = (first.0, bytes_two one two first.1 second)

names_is : (owner datum : List ℕ) → AreBytes owner → AreBytes datum → unquoted (quoted_text owner ++ 32 ∷ quoted_text datum) ≡ owner ++ 32 ∷ datum
names_is owner datum first second =
    let space : 32 < 256 = omega arith in
    ap unquoted (sym (quoted-append owner (32 ∷ datum))) ∙ unquoted-quoted (owner ++ 32 ∷ datum) (bytes_two owner (32 ∷ datum) first (space, second))

abbrev cleanup_of : ℕ → ℕ → ℕ → List ℕ → Cleanup
cleanup_of id status note names = record { id = id; status = status; note = note; owner = before_space names; datum = after_space names }

cleanup_is : (c : Cleanup) → IsTold (told_cleanup c) → guessed_cleanup (told_words (told_cleanup c)) ≡ recut c
cleanup_is c is =
    let i : Numeral c.id (number_words c.id) = numbered c.id is.0 in
    let s : Status c.status (status_words c.status) = status_read c.status is.1 in
    let n : Numeral c.note (number_words c.note) = numbered c.note is.2 in
    let names : List ℕ = quoted_text c.owner ++ 32 ∷ quoted_text c.datum in
    let three : List ℕ = number_words c.note ++ 32 ∷ names in
    let two : List ℕ = status_words c.status ++ 32 ∷ three in
    let words : List ℕ = number_words c.id ++ 32 ∷ two in
    let e1 : after_space words ≡ two = after_space-word (number_words c.id) two i.one in
    let e2 : after_space (after_space words) ≡ three = ap after_space e1 ∙ after_space-word (status_words c.status) three s.one in
    let e3 : after_space (after_space (after_space words)) ≡ names = ap after_space e2 ∙ after_space-word (number_words c.note) names n.one in
    let id : guessed_number (before_space words) ≡ c.id = ap guessed_number (before_space-word (number_words c.id) two i.one) ∙ i.value in
    let status : guessed_status (before_space (after_space words)) ≡ c.status = ap (λ (x : List ℕ). guessed_status (before_space x)) e1 ∙ ap guessed_status (before_space-word (status_words c.status) three s.one) ∙ s.value in
    let note : guessed_number (before_space (after_space (after_space words))) ≡ c.note = ap (λ (x : List ℕ). guessed_number (before_space x)) e2 ∙ ap guessed_number (before_space-word (number_words c.note) names n.one) ∙ n.value in
    let all : unquoted (after_space (after_space (after_space words))) ≡ c.owner ++ 32 ∷ c.datum = ap unquoted e3 ∙ names_is c.owner c.datum is.3 is.4 in
    ap (λ (x : ℕ). cleanup_of x (guessed_status (before_space (after_space words))) (guessed_number (before_space (after_space (after_space words)))) (unquoted (after_space (after_space (after_space words))))) id
    ∙ ap (λ (x : ℕ). cleanup_of c.id x (guessed_number (before_space (after_space (after_space words)))) (unquoted (after_space (after_space (after_space words))))) status
    ∙ ap (λ (x : ℕ). cleanup_of c.id c.status x (unquoted (after_space (after_space (after_space words))))) note ∙ ap (λ (x : List ℕ). cleanup_of c.id c.status c.note x) all

or_true : (a b : Bool) → b ≡ true → (a || b) ≡ true
or_true true b is = refl
or_true false b is = is

has_middle : (byte : ℕ) (one two : List ℕ) → has_byte byte (one ++ byte ∷ two) ≡ true
has_middle byte [] two = ap (λ (c : Bool). c || has_byte byte two) (eq-eqb byte byte refl)
has_middle byte (b ∷ one) two = or_true (eqb b byte) (has_byte byte (one ++ byte ∷ two)) (has_middle byte one two)

recut_text : (number : ℕ) (c : Cleanup) → told_text number (told_cleanup (recut c)) ≡ told_text number (told_cleanup c)
recut_text number c =
    let whole : before_space (c.owner ++ 32 ∷ c.datum) ++ 32 ∷ after_space (c.owner ++ 32 ∷ c.datum) ≡ c.owner ++ 32 ∷ c.datum = cut_again (c.owner ++ 32 ∷ c.datum) (has_middle 32 c.owner c.datum) in
    let names : quoted_text (recut c).owner ++ 32 ∷ quoted_text (recut c).datum ≡ quoted_text c.owner ++ 32 ∷ quoted_text c.datum =
    sym (quoted-append (recut c).owner (32 ∷ (recut c).datum)) ∙ ap quoted_text whole ∙ quoted-append c.owner (32 ∷ c.datum) in
    told_ends number (told_cleanup (recut c))
    ∙ ap (λ (x : List ℕ). line_of number (codes "clean") (number_words c.id ++ 32 ∷ (status_words c.status ++ 32 ∷ (number_words c.note ++ 32 ∷ x))) ++ 10 ∷ []) names
    ∙ sym (told_ends number (told_cleanup c))

wait_is : (code : Code) (asked wait : ℕ) → IsTold (told_wait code asked wait) → guessed_wait (told_words (told_wait code asked wait)) ≡ told_wait code asked wait
wait_is code asked wait is =
    let k : KnownCode code = known_code code in
    let d = small_code code in
    let a : Numeral asked (number_words asked) = numbered asked is.0 in
    let w : Numeral wait (number_words wait) = numbered wait is.1 in
    let tail : List ℕ = number_words asked ++ 32 ∷ number_words wait in
    let the_rest : List ℕ = decimal (number_of code) ++ 32 ∷ tail in
    let words : List ℕ = name_of code ++ 32 ∷ the_rest in
    let e : after_space (after_space words) ≡ tail = ap after_space (after_space-word (name_of code) the_rest k.one) ∙ after_space-word (decimal (number_of code)) tail d.one in
    ap (λ (x : List ℕ). told_wait (guessed_code (before_space words)) (guessed_number (before_space x)) (guessed_number (after_space x))) e
    ∙ ap (λ (x : List ℕ). told_wait (guessed_code x) (guessed_number (before_space tail)) (guessed_number (after_space tail))) (before_space-word (name_of code) the_rest k.one)
    ∙ ap (λ (x : Code). told_wait x (guessed_number (before_space tail)) (guessed_number (after_space tail))) k.back
    ∙ ap (λ (x : List ℕ). told_wait code (guessed_number x) (guessed_number (after_space tail))) (before_space-word (number_words asked) (number_words wait) a.one)
    ∙ ap (λ (x : ℕ). told_wait code x (guessed_number (after_space tail))) a.value
    ∙ ap (λ (x : List ℕ). told_wait code asked (guessed_number x)) (after_space-word (number_words asked) (number_words wait) a.one) ∙ ap (λ (x : ℕ). told_wait code asked x) w.value

-- what is guessed is printed the same, has a form, and is the same except for contents that don't
-- count
pub record FoundTold (number : ℕ) (t : ToldLine) : Type 0 where
  pub found : ToldLine
  pub is : guessed_told (told_word t) (told_words t) ≡ Some found
  pub formed : has_form found ≡ true
  pub text : told_text number found ≡ told_text number t
  pub same : bare_told found ≡ bare_told t

pub told_is : (number : ℕ) (t : ToldLine) → IsTold t → FoundTold number t
told_is number (told_message style text) is = record { found = told_message style text; is = ap Some (message_is style text is); formed = refl; text = refl; same = refl }
told_is number (told_visit v) is = record { found = told_visit v; is = ap (λ (x : RecordedLine). Some (told_visit x)) (seen_is v is); formed = refl; text = refl; same = refl }
told_is number (told_cleanup c) is = record { found = told_cleanup (recut c); is = ap (λ (x : Cleanup). Some (told_cleanup x)) (cleanup_is c is); formed = refl; text = recut_text number c; same = refl }
told_is number (told_wait code asked wait) is = record { found = told_wait code asked wait; is = ap Some (wait_is code asked wait is); formed = refl; text = refl; same = refl }
told_is number (told_missing name) is = record { found = told_missing name; is = ap (λ (x : List ℕ). Some (told_missing x)) (unquoted-quoted name is); formed = refl; text = refl; same = refl }
told_is number (told_variable variable) is = record {
  found = told_variable variable;
  is = ap (λ (x : List ℕ). Some (told_variable x)) (unquoted-quoted variable is.bytes);
  formed = ap (has_byte 61) is.is ∙ has_middle 61 is.name is.value;
  text = refl;
  same = refl;
}

-- ---- results

-- a result's word, and those after it
abbrev pub result_word : Result → List ℕ
result_word (answered command shown) = command_word command
result_word (closed_by_program code) = codes "closed"

abbrev pub result_words : Result → List ℕ
result_words (answered command shown) = shown_words shown
result_words (closed_by_program code) = code_words code

pub result_ends : (number : ℕ) (r : Result) → result_text number r ≡ line_of number (result_word r) (result_words r) ++ 10 ∷ []
result_ends number (answered command shown) = simp append_assoc
result_ends number (closed_by_program code) = simp append_assoc

abbrev by_words : List ℕ → List ℕ → Shown
by_words words word = guessed_by word words

code_is : (code : Code) → guessed_shown (code_words code) ≡ shows_code code
code_is code =
    let k : KnownCode code = known_code code in
    let d = small_code code in
    let words : List ℕ = code_words code in
    let the_rest : after_space (after_space words) ≡ [] = ap after_space (after_space-word (name_of code) (decimal (number_of code)) k.one) ∙ after_space-all (decimal (number_of code)) d.one in
    ap (by_words words) (before_space-word (name_of code) (decimal (number_of code)) k.one) ∙ k.shown words
    ∙ ap (answer_by words) the_rest ∙ ap (λ (x : List ℕ). shows_code (guessed_code x)) (before_space-word (name_of code) (decimal (number_of code)) k.one) ∙ ap shows_code k.back

pending_is : (func : Func) → guessed_shown (pending_words func) ≡ shows_pending func
pending_is func =
    let k : KnownCode Abort = known_code Abort in
    let d = small_code Abort in
    let name : List ℕ = name_of Abort in
    let number : List ℕ = decimal (number_of Abort) in
    let tail : List ℕ = codes "pending " ++ word_of_func func in
    let words : List ℕ = name ++ 32 ∷ (number ++ 32 ∷ tail) in
    let regroup : pending_words func ≡ words = append_assoc name (32 ∷ number) (32 ∷ tail) in
    let the_rest : after_space (after_space words) ≡ tail = ap after_space (after_space-word name (number ++ 32 ∷ tail) k.one) ∙ after_space-word number tail d.one in
    ap guessed_shown regroup ∙ ap (by_words words) (before_space-word name (number ++ 32 ∷ tail) k.one) ∙ k.shown words ∙ ap (answer_by words) the_rest ∙ ap shows_pending (known_func func).back

refusal_is : (fault : LoadFault) → IsShown (shows_fault fault) → guessed_shown (refused_words fault) ≡ shows_fault fault
refusal_is fault is =
    let k : KnownFault fault.kind = known_fault fault.kind in
    let few : fault_number fault.kind < 64 = ltb-true (fault_number fault.kind) 64 k.small in
    let d : Numeral (fault_number fault.kind) (decimal (fault_number fault.kind)) = writes (fault_number fault.kind) (omega arith) in
    let n : Numeral fault.line (number_words fault.line) = numbered fault.line is.1 in
    let q : List ℕ = quoted_text fault.file in
    let l : List ℕ = number_words fault.line in
    let w : List ℕ = fault_name fault.kind in
    let words : List ℕ = q ++ 32 ∷ (l ++ 32 ∷ (w ++ 32 ∷ decimal (fault_number fault.kind))) in
    let last : words ≡ (q ++ 32 ∷ (l ++ 32 ∷ w)) ++ 32 ∷ decimal (fault_number fault.kind) = simp append_assoc in
    let named : before_last words ≡ (q ++ 32 ∷ l) ++ 32 ∷ w = ap before_last last ∙ before_last-cut (q ++ 32 ∷ (l ++ 32 ∷ w)) (decimal (fault_number fault.kind)) d.one ∙ regrouped q l w in
    let placed : before_last (before_last words) ≡ q ++ 32 ∷ l = ap before_last named ∙ before_last-cut (q ++ 32 ∷ l) w k.one in
    let file : unquoted (before_last (before_last (before_last words))) ≡ fault.file = ap (λ (x : List ℕ). unquoted (before_last x)) placed ∙ ap unquoted (before_last-cut q l n.one) ∙ unquoted-quoted fault.file is.0 in
    let line : guessed_number (last_word (before_last (before_last words))) ≡ fault.line = ap (λ (x : List ℕ). guessed_number (last_word x)) placed ∙ ap guessed_number (last_word-cut q l n.one) ∙ n.value in
    let kind : guessed_fault (last_word (before_last words)) ≡ fault.kind = ap (λ (x : List ℕ). guessed_fault (last_word x)) named ∙ ap guessed_fault (last_word-cut (q ++ 32 ∷ l) w k.one) ∙ k.back in
    ap (λ (x : List ℕ). shows_fault (fault_at x (guessed_number (last_word (before_last (before_last words)))) (guessed_fault (last_word (before_last words))))) file
    ∙ ap (λ (x : ℕ). shows_fault (fault_at fault.file x (guessed_fault (last_word (before_last words))))) line ∙ ap (λ (x : FaultKind). shows_fault (fault_at fault.file fault.line x)) kind

count_is : (n : ℕ) → n < 2 ^ 64 → guessed_shown (number_words n) ≡ shows_count n
count_is n lt =
    let w : Numeral n (number_words n) = numbered n lt in
    ap (by_words (number_words n)) (before_space-all (number_words n) w.one) ∙ ap (λ (b : Bool). if b then shows_count (guessed_number (number_words n)) else by_keyword (number_words n) (number_words n)) w.all ∙ ap shows_count w.value

pub shown_is : (shown : Shown) → IsShown shown → guessed_shown (shown_words shown) ≡ shown
shown_is (shows_code code) is = code_is code
shown_is (shows_fault fault) is = refusal_is fault is
shown_is (shows_value (Some text)) is = ap (λ (x : List ℕ). shows_value (Some x)) (unquoted-quoted text is)
shown_is (shows_value None) is = refl
shown_is (shows_count n) is = count_is n is
shown_is shows_not_open is = refl
shown_is shows_already_open is = refl
shown_is shows_bad_number is = refl
shown_is (shows_pending func) is = pending_is func
