-- A line of the script (this project's own).
use Rattle.std.specs.Prelude.{◌≡◌, ℕ, ◌-◌, Bool, true, List, [], ◌∷◌, length, take, Option, Some, None, Result, Ok, Err, codes, nat_eq, nat_lt, ◌==◌, if◌then◌else◌}
use Rattle.std.specs.List.{ends_with}
use Rattle.pam_base.specs.declared.fault.Refuse.{Refuse}
use Rattle.pam_base.specs.declared.fault.Refuse.TheVariants as refusals
use Rattle.pam_base.specs.declared.fault.ScriptKind.{ScriptKind}
use Rattle.pam_base.specs.declared.fault.ScriptKind.TheVariants.{BadWord, LineTooLong}
use Rattle.pam_base.specs.Words.{words_of}
use Rattle.script_lang.specs.declared.command.Command.{Command}
use Rattle.script_lang.specs.declared.line.Line.{Line}
use Rattle.script_lang.specs.declared.line.Line.TheVariants.{Blank}
use Rattle.script_lang.specs.Command.{places_of, command_of_word}
use Rattle.script_lang.specs.Cut.{first_word, has_its_words}
use Rattle.script_lang.specs.Value.{Meanings, meanings_at}
use Rattle.script_lang.specs.Call.{line_made}

-- a line without one carriage return at its end
abbrev pub without_return : List ℕ → List ℕ
without_return line = if ends_with nat_eq line (codes "\r") then take (length line - 1) line
    else line

-- an empty line and a comment ask for nothing
abbrev pub is_blank : List ℕ → Bool
is_blank [] = true
is_blank (b ∷ bs) = b == 35

-- the line that a command makes from its words, or their leftmost fault
abbrev pub line_or_fault : Command → Result Meanings ScriptKind → Result Line ScriptKind
line_or_fault command (Ok said) = Ok (line_made command said)
line_or_fault command (Err fault) = Err fault

-- the line of a command; the number of words is checked before their forms
abbrev pub line_of_command : Option Command → List (List ℕ) → Result Line ScriptKind
line_of_command None words = Err BadWord
line_of_command (Some command) words =
    if has_its_words (places_of command) words
    then line_or_fault command (meanings_at (places_of command) words)
    else Err BadWord

abbrev pub command_line : List ℕ → Result Line ScriptKind
command_line text = line_of_command (command_of_word (first_word text)) (words_of text)

-- what a line asks for, or its first fault
abbrev pub parsed_text : List ℕ → Result Line ScriptKind
parsed_text text = if nat_lt 512 (length text) then Err LineTooLong else if is_blank text
    then Ok Blank else command_line text

abbrev pub parsed : List ℕ → Result Line ScriptKind
parsed line = parsed_text (without_return line)

-- the fault is the line's; or the line has none, and an allocation failed
abbrev pub IsRefusal : Refuse ScriptKind → Result Line ScriptKind → Type 0
IsRefusal (refusals.Named fault) answer = answer ≡ Err fault
IsRefusal refusals.NoMemory answer = (line : Line) × (answer ≡ Ok line)
