-- The table of modules (this project's own): a line for each module and type, with what its SUCCESS
-- says, which codes it may return, and why. Empty lines and those that begin with # say nothing.
use Rattle.std.specs.Prelude.{ℕ, nat_eq, Bool, true, false, ◌&&◌, ◌||◌, if◌then◌else◌, List, []}
use Rattle.std.specs.Prelude.{◌∷◌, Option, Some, None, Result, Ok, Err, codes as text, map}
use Rattle.std.specs.List.{find}
use Rattle.std.specs.Str.{bytes_eq}
use Rattle.pam_base.specs.Code.{all_codes}
use Rattle.pam_base.specs.Lines.{lines_of}
use Rattle.pam_base.specs.Parts.{parts_of}
use Rattle.stack_ways.specs.declared.line_codes.LineCodes.{LineCodes}
use Rattle.module_table.specs.declared.entry.Entry.{Entry}
use Rattle.module_table.specs.declared.judging.Judging.{Judging}
use Rattle.module_table.specs.declared.judging.Judging.TheVariants.{Asks}
use Rattle.module_table.specs.Codes.{are_codes, may, yes_codes}
use Rattle.module_table.specs.Judging.{counts, judging_of}

-- ---- a line

-- the word of a type, or `*` for all
abbrev pub is_type_word : List ℕ → Bool
is_type_word word = bytes_eq word (text "*") || (bytes_eq word (text "auth")
    || (bytes_eq word (text "account") || (bytes_eq word (text "password")
    || bytes_eq word (text "session"))))

abbrev pub judged_entry : List ℕ → List ℕ → Option Judging → List ℕ → List ℕ → Option Entry
judged_entry name rule_type None codes basis = None
judged_entry name rule_type (Some judging) codes basis = Some (record {
  name = name;
  rule_type = rule_type;
  judging = judging;
  codes = codes;
  basis = basis;
})

-- a name, a type, what its SUCCESS says, codes, and why
abbrev pub entry_of_words : List (List ℕ) → Option Entry
entry_of_words (name ∷ rule_type ∷ judging ∷ codes ∷ basis ∷ []) =
    if is_type_word rule_type && are_codes codes
    then judged_entry name rule_type (judging_of judging) codes basis else None
entry_of_words words = None

-- one space is between two words
abbrev pub entry_in : List ℕ → Option Entry
entry_in line = entry_of_words (parts_of 32 line)

-- ---- the table

-- whether a line says nothing
abbrev pub is_note : List ℕ → Bool
is_note [] = true
is_note (b ∷ bs) = nat_eq b 35

abbrev pub before_more : List ℕ → Option Entry → Result (List Entry) (List ℕ)
    → Result (List Entry) (List ℕ)
before_more line None more = Err line
before_more line (Some entry) (Ok more) = Ok (entry ∷ more)
before_more line (Some entry) (Err bad) = Err bad

-- the entries of lines, or the first line that isn't one
abbrev pub entries_in : List (List ℕ) → Result (List Entry) (List ℕ)
entries_in [] = Ok []
entries_in (l ∷ ls) = if is_note l then entries_in ls
    else before_more l (entry_in l) (entries_in ls)

abbrev pub table_of : List ℕ → Result (List Entry) (List ℕ)
table_of text = entries_in (lines_of text)

-- entries before those of more lines
abbrev pub after_these : List Entry → Result (List Entry) (List ℕ) → Result (List Entry) (List ℕ)
after_these [] more = more
after_these (e ∷ es) more = before_more [] (Some e) (after_these es more)

-- ---- what is known of a module

abbrev pub is_for : List ℕ → List ℕ → Entry → Bool
is_for name rule_type e = bytes_eq e.name name
    && (bytes_eq e.rule_type (text "*") || bytes_eq e.rule_type rule_type)

-- the first entry for a module in the stacks of a type
abbrev pub entry_for : List Entry → List ℕ → List ℕ → Option Entry
entry_for [] name rule_type = None
entry_for (e ∷ es) name rule_type =
    if is_for name rule_type e then Some e else entry_for es name rule_type

abbrev pub line_codes : Judging → List ℕ → LineCodes
line_codes judging codes = record {
  may = map (may codes) all_codes;
  counts = yes_codes (counts judging);
}

-- what is assumed of a line: without an entry its module may return anything, and counts as one
-- that asks
abbrev pub codes_of : Option Entry → LineCodes
codes_of None = line_codes Asks (text "any")
codes_of (Some e) = line_codes e.judging e.codes
