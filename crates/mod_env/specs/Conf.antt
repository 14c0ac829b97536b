-- The file of pam_env.conf(5): one variable per line, with a default value and one that overrides it.
--
-- Its steps:
--   `conf_of`, `entries_of`, `entry_at`: the variables of the lines
--   `values_of`, `values_within`: the values of a line
--   `values_after_setting`, `values_after_pieces`: .. from how the rest of it begins
use Rattle.std.specs.Prelude.{ℕ, zero, suc, ◌+◌, Bool, true, false, ◌==◌, if◌then◌else◌, List, [], ◌∷◌, length, take, drop, Option, Some, None, position, codes}
use Rattle.std.specs.List.{after_first, before_first}
use Rattle.pam_base.specs.Bytes.{has_byte}
use Rattle.pam_base.specs.Lines.{lines_of}
use Rattle.pam_base.specs.White.{is_white}
use Rattle.mod_env.specs.declared.marks.Mark.{Mark}
use Rattle.mod_env.specs.declared.value.Piece.{Piece}
use Rattle.mod_env.specs.declared.conf.Key.{Key}
use Rattle.mod_env.specs.declared.conf.Key.TheVariants.{Default, Override}
use Rattle.mod_env.specs.declared.conf.Values.{Values}
use Rattle.mod_env.specs.declared.conf.EnvLine.{EnvLine}
use Rattle.mod_env.specs.declared.conf.Setting.{Setting as LentSetting}
use Rattle.mod_env.specs.declared.conf.Setting.TheVariants as borrowed
use Rattle.mod_env.specs.Marks.{begins_with, unspaced, after_white, is_byte, is_white_mark, marks_of}
use Rattle.mod_env.specs.Value.{pieces_of}

-- ---- the settings of a line

-- how the settings of a line begin: they end, there is a setting with what follows it, or they are malformed
pub data Setting : Type 0 where
  ended : Setting
  broken : Setting
  one : Key → List Mark → List Mark → Setting

-- a value within quotes ends its word
abbrev pub ends_word : List Mark → Bool
ends_word [] = true
ends_word (m ∷ ms) = is_white_mark m

-- a value within quotes may hold white space; it ends at the next quote
abbrev pub quoted : Key → List Mark → Option ℕ → Setting
quoted key marks None = broken
quoted key marks (Some n) =
    if ends_word (drop (n + 1) marks) then one key (take n marks) (drop (n + 1) marks) else broken

-- any other value ends at the next white space
abbrev pub unquoted : Key → List Mark → Option ℕ → Setting
unquoted key marks (Some n) = one key (take n marks) (drop n marks)
unquoted key marks None = one key marks []

abbrev pub at_value : Key → List Mark → Setting
at_value key marks =
    if begins_with (34 ∷ []) marks then quoted key (drop 1 marks)
    (position (is_byte 34) (drop 1 marks))
    else unquoted key marks (position is_white_mark marks)

-- a setting is DEFAULT= or OVERRIDE= with a value
abbrev pub at_key : List Mark → Setting
at_key marks =
    if length marks == 0 then ended
    else if begins_with (codes "DEFAULT=") marks then at_value Default (drop 8 marks)
    else if begins_with (codes "OVERRIDE=") marks then at_value Override (drop 9 marks)
    else broken

abbrev pub next_setting : List Mark → Setting
next_setting marks = at_key (after_white marks)

-- no value is given
abbrev pub no_values : Values
no_values = record { default = None; overriding = None }

abbrev pub with_value : Key → List Piece → Values → Values
with_value Default pieces values = record values { default = Some pieces }
with_value Override pieces values = record values { overriding = Some pieces }

-- the values, from how the text begins and from the rest, given those found so far; the last one of
-- each kind counts
abbrev pub values_after_pieces : (Values → List Mark → Option Values) → Values → Key → List Mark
    → Option (List Piece) → Option Values
values_after_pieces more values key rest (Some pieces) = more (with_value key pieces values) rest
values_after_pieces more values key rest None = None

abbrev pub values_after_setting : (Values → List Mark → Option Values) → Values → Setting → Option Values
values_after_setting more values ended = Some values
values_after_setting more values broken = None
values_after_setting more values (one key value rest) = values_after_pieces more values key rest (pieces_of value)

-- the values of at most n settings, and those that were found before
abbrev pub values_within : ℕ → Values → List Mark → Option Values
values_within zero values marks = if length (after_white marks) == 0 then Some values else None
values_within (suc n) values marks = values_after_setting (values_within n) values (next_setting marks)

-- the values in what follows a name, if it is well formed; there are at most as many settings as bytes
unfoldable pub values_of : List Mark → Option Values
values_of marks = values_within (length marks) no_values marks

-- ---- lines

-- a line without leading white space
abbrev pub without_leading_white : List ℕ → List ℕ
without_leading_white line = unspaced is_white line

-- a line counts unless it is all white space, or a comment
abbrev pub counts : List ℕ → Bool
counts [] = false
counts (b ∷ bs) = if b == 35 then false else true

abbrev pub with_values : List ℕ → Option Values → Option EnvLine
with_values name (Some values) = Some (record { name = name; values = values })
with_values name None = None

-- a name ends at the first white space, and has no `=`
abbrev pub entry_at : List ℕ → Option EnvLine
entry_at text =
    if has_byte 61 (before_first is_white text) then None
    else with_values (before_first is_white text) (values_of (marks_of (after_first is_white text)))

abbrev pub put_before : Option EnvLine → Option (List EnvLine) → Option (List EnvLine)
put_before (Some entry) (Some entries) = Some (entry ∷ entries)
put_before (Some entry) None = None
put_before None entries = None

-- the variables of lines, if each line that counts is well formed
abbrev pub entries_of : List (List ℕ) → Option (List EnvLine)
entries_of [] = Some []
entries_of (line ∷ lines) = if counts (without_leading_white line)
    then put_before (entry_at (without_leading_white line)) (entries_of lines) else entries_of lines

-- the variables of a text
abbrev pub conf_of : List ℕ → Option (List EnvLine)
conf_of text = entries_of (lines_of text)

-- the plain value of the code's type
abbrev pub plain_setting : LentSetting → Setting
plain_setting borrowed.Ended = ended
plain_setting borrowed.Broken = broken
plain_setting (borrowed.One key value rest) = one key value.now rest.now
