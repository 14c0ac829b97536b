-- A form is read if it is printed as the line; otherwise nothing is read.
use Rattle.std.proofs.Common.{◌≡◌, Bool, true, false, if◌then◌else◌, List, ℕ, [], ◌∷◌, ◌++◌, Option, Some, None, refl, sym, ◌∙◌, ap}
use Rattle.std.specs.Char.{is_ascii_digit}
use Rattle.std.specs.List.{list_all}
use Rattle.std.specs.Str.{bytes_eq}
use Rattle.report_lines.specs.Guess.{if_printed, guessed_last, read_numbered, read_line}
use Rattle.report_lines.specs.Says.{Says, says_text, lasts}
use Rattle.report_lines.specs.Words.{before_space, after_space, guessed_number}

either : (b c : Bool) (x y : Option Says) → b ≡ c → (if b then x else y) ≡ (if c then x else y)
either b c x y is = ap (λ (d : Bool). if d then x else y) is

tested : (line text : List ℕ) (s : Says) (b : Bool) → says_text s ≡ text → bytes_eq text (line ++ 10 ∷ []) ≡ b
    → bytes_eq (says_text s) (line ++ 10 ∷ []) ≡ b
tested line text s b is test = ap (λ (t : List ℕ). bytes_eq t (line ++ 10 ∷ [])) is ∙ test

pub printed : (line text : List ℕ) (s : Says) → says_text s ≡ text → bytes_eq text (line ++ 10 ∷ []) ≡ true → if_printed line s ≡ Some s
unfolding if_printed
printed line text s is test = either (bytes_eq (says_text s) (line ++ 10 ∷ [])) true (Some s) None (tested line text s true is test)

pub unprinted : (line text : List ℕ) (s : Says) → says_text s ≡ text → bytes_eq text (line ++ 10 ∷ []) ≡ false → if_printed line s ≡ None
unfolding if_printed
unprinted line text s is test = either (bytes_eq (says_text s) (line ++ 10 ∷ [])) false (Some s) None (tested line text s false is test)

-- ---- a line, by its number

when_digits : (b : Bool) (x y : Option Says) → b ≡ true → (if b then x else y) ≡ x
when_digits true x y is = refl
when_digits false x y is = absurd (cc)

pub numbered : (line before same : List ℕ) (n : ℕ) (the_rest word words : List ℕ) → before ≡ before_space line → list_all is_ascii_digit before ≡ true
    → same ≡ before_space line → n ≡ guessed_number same → the_rest ≡ after_space line → word ≡ before_space the_rest → words ≡ after_space the_rest
    → read_line line ≡ read_numbered line n word words
numbered line before same n the_rest word words is digits same_is n_is past_is word_is words_is =
    let number : guessed_number (before_space line) ≡ n = ap guessed_number (sym same_is) ∙ sym n_is in
    let one : before_space (after_space line) ≡ word = ap before_space (sym past_is) ∙ sym word_is in
    let two : after_space (after_space line) ≡ words = ap after_space (sym past_is) ∙ sym words_is in
    when_digits (list_all is_ascii_digit (before_space line)) _ (if_printed line (lasts (guessed_last line))) (ap (list_all is_ascii_digit) (sym is) ∙ digits)
    ∙ ap (λ (m : ℕ). read_numbered line m (before_space (after_space line)) (after_space (after_space line))) number
    ∙ ap (λ (w : List ℕ). read_numbered line n w (after_space (after_space line))) one
    ∙ ap (λ (w : List ℕ). read_numbered line n word w) two
