-- A step that is read from a line may be asked for.
use Rattle.std.proofs.Common.{◌≡◌, ℕ, zero, suc, ◌≤◌, Bool, true, false, List, [], ◌∷◌, length, drop, get_or, Option, Some, None, Result, Ok, Err, IfOk, nat_lt, nat_le, cond, refl, ap, subst, arith, length-append}
use Rattle.std.proofs.lemmas.Bool.{ltb-true, le-leb, leb-true, and_parts}
use Rattle.std.proofs.lemmas.Option.{slice_get-get_or}
use Rattle.std.specs.Prelude.{option_map}
use Rattle.std.specs.List.{join_with_byte}
use Rattle.std.specs.Option.{ok_or}
use Rattle.pam_base.specs.declared.fault.Refuse.{Refuse}
use Rattle.pam_base.specs.declared.fault.ScriptKind.{ScriptKind}
use Rattle.pam_base.specs.declared.fault.ScriptKind.TheVariants.{BadWord, BadNumeral}
use Rattle.pam_base.specs.Words.{words_of}
use Rattle.pam_base.specs.declared.call.CallName.TheVariants as names
use Rattle.pam_base.specs.declared.call.Func.TheVariants as funcs
use Rattle.script_lang.specs.declared.command.Command.{Command}
use Rattle.script_lang.specs.declared.command.Command.TheVariants as commands
use Rattle.script_lang.specs.declared.line.Line.{Line}
use Rattle.script_lang.specs.declared.place.Form.TheVariants as forms
use Rattle.script_lang.specs.declared.place.Position.TheVariants.{Wanted}
use Rattle.script_lang.specs.Call.{line_made}
use Rattle.script_lang.specs.Command.{places_of, command_of_word}
use Rattle.script_lang.specs.Cut.{first_word, has_its_words, word_at}
use Rattle.script_lang.specs.Fit.{IsFit}
use Rattle.script_lang.specs.Line.{command_line, line_of_command, line_or_fault}
use Rattle.pam_base.specs.ServiceName.{is_service_name}
use Rattle.script_lang.specs.Number.{at_most, number_of_digits}
use Rattle.script_lang.specs.Value.{Meaning, Meanings, absent, wide, wide_of, bytes, bytes_of, meaning_of_word, meaning_at, meanings_at, all_of}
use Rattle.script_lang.proofs.Words.{join-words_of}

drop-nil : (n : ℕ) → drop {A = List ℕ} n [] ≡ []
drop-nil zero = refl
drop-nil (suc n) = refl

-- the words from one of them on aren't longer than all words with the spaces between them
length-join-drop : (n : ℕ) (words : List (List ℕ)) → length (join_with_byte 32 (drop n words)) ≤ length (join_with_byte 32 words)
length-join-drop zero words = omega arith
length-join-drop (suc n) [] = omega arith
length-join-drop (suc n) (w ∷ []) = omega (arith, ap (λ (words : List (List ℕ)). length (join_with_byte 32 words)) (drop-nil n))
length-join-drop (suc n) (w ∷ v ∷ ws) =
    omega (arith, length-join-drop n (v ∷ ws), length-append w (32 ∷ join_with_byte 32 (v ∷ ws)))

-- the first of three meanings
all_of-first : (first second third : Result Meaning ScriptKind) (said : Meanings) → all_of first second third ≡ Ok said → first ≡ Ok said.first
all_of-first (Err f) second third said e = absurd cc
all_of-first (Ok a) (Err f) third said e = absurd cc
all_of-first (Ok a) (Ok b) (Err f) said e = absurd cc
all_of-first (Ok a) (Ok b) (Ok c) said e =
    let same : ◌≡◌ {A = Meanings} (record { first = a; second = b; third = c }) said = cc in
    ap (λ (m : Meanings). Ok m.first) same

-- the second of three meanings
all_of-second : (first second third : Result Meaning ScriptKind) (said : Meanings) → all_of first second third ≡ Ok said → second ≡ Ok said.second
all_of-second (Err f) second third said e = absurd cc
all_of-second (Ok a) (Err f) third said e = absurd cc
all_of-second (Ok a) (Ok b) (Err f) said e = absurd cc
all_of-second (Ok a) (Ok b) (Ok c) said e =
    let same : ◌≡◌ {A = Meanings} (record { first = a; second = b; third = c }) said = cc in
    ap (λ (m : Meanings). Ok m.second) same

-- a service's name
named : (word : List ℕ) (m : Meaning) → ok_or (cond (is_service_name word) (Some (bytes word)) None) BadWord ≡ Ok m → is_service_name (bytes_of m) ≡ true
named word m e = by_cases (is_service_name word) refl e
  where
    by_cases : (b : Bool) → is_service_name word ≡ b → ok_or (cond b (Some (bytes word)) None) BadWord ≡ Ok m → is_service_name (bytes_of m) ≡ true
    by_cases true is e = let same : bytes word ≡ m = cc in rw (← same) is
    by_cases false is e = absurd cc

service_named : (words : List (List ℕ)) (m : Meaning) → nat_lt 2 (length words) ≡ true → meaning_at (Wanted forms.Service) 2 words ≡ Ok m
    → is_service_name (bytes_of m) ≡ true
service_named words m lt e =
    named (get_or words 2 []) m (rw (slice_get-get_or words 2 [] (ltb-true 2 (length words) lt)) at e)

reply_short : (words : List (List ℕ)) (m : Meaning) → nat_lt 2 (length words) ≡ true → meaning_at (Wanted forms.Text) 2 words ≡ Ok m
    → length (join_with_byte 32 words) ≤ 512 → nat_le (length (bytes_of m)) 512 ≡ true
reply_short words m lt e short =
    let is = rw lt at e in
    let same : bytes (join_with_byte 32 (drop 2 words)) ≡ m = cc in
    rw (← same) (le-leb _ 512 (omega (arith, length-join-drop 2 words, short)))

-- a time of the clock
at_most_small : (n : ℕ) (m : Meaning) (b : Bool) → nat_le n 1000000000000 ≡ b → ok_or (option_map wide (cond b (Some n) None)) BadNumeral ≡ Ok m
    → wide_of m ≤ 1000000000000
at_most_small n m true le e =
    let same : wide n ≡ m = cc in
    rw (← same) (leb-true n 1000000000000 le)
at_most_small n m false le e = absurd cc

limited_small : (o : Option ℕ) (m : Meaning) → ok_or (option_map wide (at_most 1000000000000 o)) BadNumeral ≡ Ok m → wide_of m ≤ 1000000000000
limited_small None m e = absurd cc
limited_small (Some n) m e = at_most_small n m _ refl e

moment_small : (o : Option (List ℕ)) (m : Meaning) → meaning_of_word (Some forms.Moment) o ≡ Ok m → wide_of m ≤ 1000000000000
moment_small None m e =
    let same : absent ≡ m = cc in
    rw (← same) (omega arith)
moment_small (Some word) m e = limited_small (number_of_digits 10 13 word) m e

-- ---- a command's line

made_fit : (command : Command) (words : List (List ℕ)) (said : Meanings) → length (join_with_byte 32 words) ≤ 512
    → has_its_words (places_of command) words ≡ true → meanings_at (places_of command) words ≡ Ok said → IsFit (line_made command said)
made_fit (commands.Call names.Start) words said short has e =
    service_named words said.second (and_parts (nat_lt 2 (length words)) _ has).0 (all_of-second _ _ _ said e)
made_fit (commands.Call names.Reply) words said short has e =
    reply_short words said.second (and_parts (nat_lt 2 (length words)) _ has).0 (all_of-second _ _ _ said e) short
made_fit (commands.Call names.End) words said short has e = refl
made_fit (commands.Call (names.Run funcs.Authenticate)) words said short has e = refl
made_fit (commands.Call (names.Run funcs.SetCred)) words said short has e = refl
made_fit (commands.Call (names.Run funcs.AcctMgmt)) words said short has e = refl
made_fit (commands.Call (names.Run funcs.OpenSession)) words said short has e = refl
made_fit (commands.Call (names.Run funcs.CloseSession)) words said short has e = refl
made_fit (commands.Call (names.Run funcs.ChAuthTok)) words said short has e = refl
made_fit (commands.Call names.SetItem) words said short has e = refl
made_fit (commands.Call names.GetItem) words said short has e = refl
made_fit (commands.Call names.PutEnv) words said short has e = refl
made_fit (commands.Call names.GetEnv) words said short has e = refl
made_fit (commands.Call names.EnvList) words said short has e = refl
made_fit (commands.Call names.FailDelay) words said short has e = refl
made_fit (commands.Call names.DelayFn) words said short has e = refl
made_fit commands.At words said short has e = moment_small (word_at (Wanted forms.Moment) 1 words) said.first (all_of-first _ _ _ said e)
made_fit commands.Random words said short has e = tt
made_fit commands.Caller words said short has e = tt

answer_fit : (command : Command) (words : List (List ℕ)) (line : Line) → length (join_with_byte 32 words) ≤ 512
    → has_its_words (places_of command) words ≡ true → (answer : Result Meanings ScriptKind) → meanings_at (places_of command) words ≡ answer
    → line_or_fault command answer ≡ Ok line → IsFit line
answer_fit command words line short has (Err fault) is e = absurd cc
answer_fit command words line short has (Ok said) is e =
    let same : line_made command said ≡ line = cc in
    subst IsFit same (made_fit command words said short has is)

command_fit : (command : Command) (words : List (List ℕ)) (line : Line) → length (join_with_byte 32 words) ≤ 512 → (b : Bool)
    → has_its_words (places_of command) words ≡ b
    → cond b (line_or_fault command (meanings_at (places_of command) words)) (Err BadWord) ≡ Ok line → IsFit line
command_fit command words line short true has e = answer_fit command words line short has _ refl e
command_fit command words line short false has e = absurd cc

named_fit : (o : Option Command) (words : List (List ℕ)) (line : Line) → length (join_with_byte 32 words) ≤ 512 → line_of_command o words ≡ Ok line → IsFit line
named_fit None words line short e = absurd cc
named_fit (Some command) words line short e = command_fit command words line short _ refl e

-- a line that was read with a command may be applied
pub read_fit : (text : List ℕ) (r : Result Line (Refuse ScriptKind)) → length text ≤ 512 → IfOk r (λ line. command_line text ≡ Ok line) → IfOk r IsFit
read_fit text (Ok line) short e = named_fit (command_of_word (first_word text)) (words_of text) line (rw (join-words_of text) short) e
read_fit text (Err refusal) short e = tt
