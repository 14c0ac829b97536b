-- Test cases: the definition, computed on lines.
use Rattle.std.proofs.Common.{◌≡◌, ℕ, [], ◌++◌, replicate, Some, None, Ok, Err, codes, refl}
use Rattle.std.specs.Fmt.{digits}
use Rattle.pam_base.specs.declared.call.AppCall.{AppCall}
use Rattle.pam_base.specs.declared.call.AppCall.TheVariants as calls
use Rattle.pam_base.specs.declared.fault.ScriptKind.TheVariants.{BadWord, BadNumeral, LineTooLong}
use Rattle.pam_base.specs.declared.item.ItemName.TheVariants.{Tty}
use Rattle.pam_base.specs.Words.{words_of}
use Rattle.script_lang.specs.declared.line.Line.{Line}
use Rattle.script_lang.specs.declared.line.Line.TheVariants as lines
use Rattle.script_lang.specs.Line.{parsed}
use Rattle.script_lang.specs.Written.{line_of}

abbrev step : ℕ → AppCall → Line
step number call = lines.Step (record { number = number; call = call })

start : parsed (codes "start 1 login joe") ≡ Ok (step 1 (calls.Start (codes "login") (Some (codes "joe"))))
unfolding words_of
start = refl

start_without_user : parsed (codes "start 016 sshd\r") ≡ Ok (step 16 (calls.Start (codes "sshd") None))
unfolding words_of
start_without_user = refl

absent_flags : parsed (codes "setcred 2") ≡ Ok (step 2 (calls.SetCred 0))
unfolding words_of
absent_flags = refl

hexadecimal_flags : parsed (codes "setcred 2 0x8aF0") ≡ Ok (step 2 (calls.SetCred 35568))
unfolding words_of
hexadecimal_flags = refl

text_with_spaces : parsed (codes "set_item 1 tty  a b ") ≡ Ok (step 1 (calls.SetItem Tty (Some (codes " a b "))))
unfolding words_of
text_with_spaces = refl

empty_text : parsed (codes "putenv 1 ") ≡ Ok (step 1 (calls.PutEnv []))
unfolding words_of
empty_text = refl

moment : parsed (codes "at 1000000000000") ≡ Ok (lines.At 1000000000000)
unfolding words_of
moment = refl

greatest_word : parsed (codes "random 9999999999999999999") ≡ Ok (lines.Random 9999999999999999999)
unfolding words_of
greatest_word = refl

comment : parsed (codes "# start 1 login\r") ≡ Ok lines.Blank
unfolding words_of
comment = refl

-- the number of words is checked before their forms
too_few_words : parsed (codes "end x") ≡ Err BadWord
unfolding words_of
too_few_words = refl

-- of two bad words the left one decides
left_bad_word : parsed (codes "start x /") ≡ Err BadNumeral
unfolding words_of
left_bad_word = refl

right_bad_word : parsed (codes "start 1 /") ≡ Err BadWord
unfolding words_of
right_bad_word = refl

too_great : parsed (codes "end 1 4294967296") ≡ Err BadNumeral
unfolding words_of
too_great = refl

no_digits : parsed (codes "end 1 0x") ≡ Err BadNumeral
unfolding words_of
no_digits = refl

two_spaces : parsed (codes "getenv 1  PATH") ≡ Err BadWord
unfolding words_of
two_spaces = refl

-- a carriage return at the end isn't counted
longest : parsed (replicate 512 35 ++ codes "\r") ≡ Ok lines.Blank
unfolding words_of
longest = refl

too_long : parsed (replicate 513 35) ≡ Err LineTooLong
unfolding words_of
too_long = refl

written : line_of (record { number = 1; call = calls.SetItem Tty (Some (codes "a\r")) }) ≡ codes "set_item 1 tty a\r\r"
unfolding digits
written = refl
