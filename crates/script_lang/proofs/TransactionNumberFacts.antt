-- The number of a transaction in a line of the script has 32 bits.
use Rattle.std.proofs.Common.{◌≡◌, ℕ, ◌<◌, ◌≤◌, ◌^◌, Bool, true, false, List, length, Option, Some, None, Result, Ok, Err, nat_lt, nat_le, if◌then◌else◌, refl, ap, subst, arith}
use Rattle.std.proofs.lemmas.Bool.{leb-true}
use Rattle.std.specs.Prelude.{option_map}
use Rattle.std.specs.Option.{ok_or}
use Rattle.pam_base.specs.declared.fault.ScriptKind.{ScriptKind}
use Rattle.pam_base.specs.declared.fault.ScriptKind.TheVariants.{BadWord, BadNumeral, LineTooLong}
use Rattle.pam_base.specs.declared.call.AppCall.{AppCall}
use Rattle.pam_base.specs.declared.call.Step.{Step as Asked}
use Rattle.pam_base.specs.Words.{words_of}
use Rattle.pam_base.specs.declared.call.CallName.TheVariants as names
use Rattle.pam_base.specs.declared.call.Func.TheVariants as funcs
use Rattle.script_lang.specs.declared.command.Command.{Command}
use Rattle.script_lang.specs.declared.command.Command.TheVariants as commands
use Rattle.script_lang.specs.declared.line.Line.TheVariants.{Blank, Step}
use Rattle.script_lang.specs.declared.place.Form.TheVariants as forms
use Rattle.script_lang.specs.declared.place.Position.TheVariants.{Wanted}
use Rattle.script_lang.specs.Call.{line_made, step}
use Rattle.script_lang.specs.Command.{places_of, command_of_word}
use Rattle.script_lang.specs.Cut.{first_word, has_its_words, word_at}
use Rattle.script_lang.specs.Line.{without_return, is_blank, command_line, line_of_command, line_or_fault}
use Rattle.script_lang.specs.Number.{at_most, any_number_of_word}
use Rattle.script_lang.specs.Value.{Meaning, Meanings, absent, number, number_of, meaning_of_word, meaning_at, meanings_at, all_of}
use Rattle.script_lang.specs.Numbered.{ReadsNumbers}

all_of-first : (first second third : Result Meaning ScriptKind) (said : Meanings) → all_of first second third ≡ Ok said → first ≡ Ok said.first
all_of-first (Err f) second third said e = absurd cc
all_of-first (Ok a) (Err f) third said e = absurd cc
all_of-first (Ok a) (Ok b) (Err f) said e = absurd cc
all_of-first (Ok a) (Ok b) (Ok c) said e =
    let same : ◌≡◌ {A = Meanings} (record { first = a; second = b; third = c }) said = cc in
    ap (λ (m : Meanings). Ok m.first) same

-- ---- a number

small_if : (n : ℕ) (m : Meaning) (b : Bool) → nat_le n 4294967295 ≡ b → ok_or (option_map number (if b then Some n else None)) BadNumeral ≡ Ok m
    → number_of m < 2 ^ 32
small_if n m true le e = let same : number n ≡ m = cc in let small : n ≤ 4294967295 = leb-true n 4294967295 le in subst (λ (x : Meaning). number_of x < 2 ^ 32) same (omega arith)
small_if n m false le e = absurd cc

limited : (o : Option ℕ) (m : Meaning) → ok_or (option_map number (at_most 4294967295 o)) BadNumeral ≡ Ok m → number_of m < 2 ^ 32
limited None m e = absurd cc
limited (Some n) m e = small_if n m _ refl e

number_small : (o : Option (List ℕ)) (m : Meaning) → meaning_of_word (Some forms.Number) o ≡ Ok m → number_of m < 2 ^ 32
number_small None m e = let same : absent ≡ m = cc in subst (λ (x : Meaning). number_of x < 2 ^ 32) same (omega arith)
number_small (Some word) m e = limited (any_number_of_word word) m e

-- ---- a command's line

step_number : (said : Meanings) (call : AppCall) (asked : Asked) → step said call ≡ Step asked → number_of said.first < 2 ^ 32 → asked.number < 2 ^ 32
step_number said call asked e small =
    let same : ◌≡◌ {A = Asked} (record { number = number_of said.first; call = call }) asked = cc in
    subst (λ (x : Asked). x.number < 2 ^ 32) same small

first_small : (words : List (List ℕ)) (said : Meanings) (second third : Result Meaning ScriptKind)
    → all_of (meaning_at (Wanted forms.Number) 1 words) second third ≡ Ok said → number_of said.first < 2 ^ 32
first_small words said second third e = number_small (word_at (Wanted forms.Number) 1 words) said.first (all_of-first _ _ _ said e)

made_numbered : (command : Command) (words : List (List ℕ)) (said : Meanings) (asked : Asked) → meanings_at (places_of command) words ≡ Ok said
    → line_made command said ≡ Step asked → asked.number < 2 ^ 32
made_numbered (commands.Call names.Start) words said asked e is = step_number said _ asked is (first_small words said _ _ e)
made_numbered (commands.Call names.End) words said asked e is = step_number said _ asked is (first_small words said _ _ e)
made_numbered (commands.Call (names.Run funcs.Authenticate)) words said asked e is = step_number said _ asked is (first_small words said _ _ e)
made_numbered (commands.Call (names.Run funcs.SetCred)) words said asked e is = step_number said _ asked is (first_small words said _ _ e)
made_numbered (commands.Call (names.Run funcs.AcctMgmt)) words said asked e is = step_number said _ asked is (first_small words said _ _ e)
made_numbered (commands.Call (names.Run funcs.OpenSession)) words said asked e is = step_number said _ asked is (first_small words said _ _ e)
made_numbered (commands.Call (names.Run funcs.CloseSession)) words said asked e is = step_number said _ asked is (first_small words said _ _ e)
made_numbered (commands.Call (names.Run funcs.ChAuthTok)) words said asked e is = step_number said _ asked is (first_small words said _ _ e)
made_numbered (commands.Call names.SetItem) words said asked e is = step_number said _ asked is (first_small words said _ _ e)
made_numbered (commands.Call names.GetItem) words said asked e is = step_number said _ asked is (first_small words said _ _ e)
made_numbered (commands.Call names.PutEnv) words said asked e is = step_number said _ asked is (first_small words said _ _ e)
made_numbered (commands.Call names.GetEnv) words said asked e is = step_number said _ asked is (first_small words said _ _ e)
made_numbered (commands.Call names.EnvList) words said asked e is = step_number said _ asked is (first_small words said _ _ e)
made_numbered (commands.Call names.FailDelay) words said asked e is = step_number said _ asked is (first_small words said _ _ e)
made_numbered (commands.Call names.DelayFn) words said asked e is = step_number said _ asked is (first_small words said _ _ e)
made_numbered (commands.Call names.Reply) words said asked e is = step_number said _ asked is (first_small words said _ _ e)
made_numbered commands.At words said asked e is = absurd cc
made_numbered commands.Random words said asked e is = absurd cc
made_numbered commands.Caller words said asked e is = absurd cc

answer_numbered : (command : Command) (words : List (List ℕ)) (asked : Asked) (answer : Result Meanings ScriptKind)
    → meanings_at (places_of command) words ≡ answer → line_or_fault command answer ≡ Ok (Step asked) → asked.number < 2 ^ 32
answer_numbered command words asked (Err fault) is e = absurd cc
answer_numbered command words asked (Ok said) is e = made_numbered command words said asked is (let same : line_made command said ≡ Step asked = cc in same)

command_numbered : (command : Command) (words : List (List ℕ)) (asked : Asked) (b : Bool)
    → (if b then line_or_fault command (meanings_at (places_of command) words) else Err BadWord) ≡ Ok (Step asked) → asked.number < 2 ^ 32
command_numbered command words asked true e = answer_numbered command words asked _ refl e
command_numbered command words asked false e = absurd cc

named_numbered : (o : Option Command) (words : List (List ℕ)) (asked : Asked) → line_of_command o words ≡ Ok (Step asked) → asked.number < 2 ^ 32
named_numbered None words asked e = absurd cc
named_numbered (Some command) words asked e = command_numbered command words asked (has_its_words (places_of command) words) e

text_if : (b c : Bool) (text : List ℕ) (asked : Asked) → (if b then Err LineTooLong else if c then Ok Blank else command_line text) ≡ Ok (Step asked)
    → asked.number < 2 ^ 32
text_if true c text asked e = absurd cc
text_if false true text asked e = absurd cc
text_if false false text asked e = named_numbered (command_of_word (first_word text)) (words_of text) asked e

pub reads_numbers : ReadsNumbers
reads_numbers line asked e = text_if (nat_lt 512 (length (without_return line))) (is_blank (without_return line)) (without_return line) asked e
