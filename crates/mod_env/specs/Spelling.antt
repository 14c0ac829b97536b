-- What spells the settings of a file of pam_env.conf(5): the forms of a value, of a line and of a text, each put
-- together from its parts, independently of the parser.
use Rattle.std.specs.Prelude.{◌≡◌, ℕ, Bool, true, false, ◌==◌, ◌&&◌, ◌⊎◌, List, [], ◌∷◌, ◌++◌, map, codes}
use Rattle.std.specs.List.{list_all, list_any}
use Rattle.pam_base.specs.Bytes.{has_byte}
use Rattle.pam_base.specs.Lines.{lines_of}
use Rattle.pam_base.specs.White.{is_white}
use Rattle.mod_env.specs.declared.marks.Mark.{Mark}
use Rattle.mod_env.specs.declared.marks.Mark.TheVariants as marks
use Rattle.mod_env.specs.declared.value.Piece.{Piece}
use Rattle.mod_env.specs.declared.value.Piece.TheVariants.{Byte, Variable, Item}
use Rattle.mod_env.specs.declared.conf.Key.{Key}
use Rattle.mod_env.specs.declared.conf.Key.TheVariants.{Default, Override}
use Rattle.mod_env.specs.declared.conf.Values.{Values}
use Rattle.mod_env.specs.declared.conf.EnvLine.{EnvLine}
use Rattle.mod_env.specs.Marks.{is_byte, is_white_mark, marks_of, text_of}
use Rattle.mod_env.specs.Value.{is_sigil}
use Rattle.mod_env.specs.Conf.{no_values, with_value}

-- ---- values

-- whether a brace with its special meaning comes first
abbrev pub opens : List Mark → Bool
opens [] = false
opens (m ∷ ms) = is_byte 123 m

-- A place, with something after it: a sigil, a brace, a name, and the brace that closes it. No
-- brace in the name closes it.
pub record SpellsPlace (sigil : ℕ) (name : List ℕ) (text followed : List Mark) : Type 0 where
  pub inner : List Mark
  pub text_is : text ≡ marks.Byte sigil ∷ marks.Byte 123 ∷ (inner ++ marks.Byte 125 ∷ followed)
  pub is_open : list_any (is_byte 125) inner ≡ false
  pub name_is : name ≡ text_of inner

-- A byte is itself if a backslash quoted it, and otherwise if no place begins with it.
abbrev pub SpellsByte : ℕ → List Mark → List Mark → Type 0
SpellsByte b text followed =
    (text ≡ marks.Plain b ∷ followed)
    ⊎ ((text ≡ marks.Byte b ∷ followed) × ((is_sigil b && opens followed) ≡ false))

-- `$` begins a variable's place, and `@` an item's
abbrev pub SpellsPiece : Piece → List Mark → List Mark → Type 0
SpellsPiece (Byte b) text followed = SpellsByte b text followed
SpellsPiece (Variable name) text followed = SpellsPlace 36 name text followed
SpellsPiece (Item name) text followed = SpellsPlace 64 name text followed

-- a value is its pieces, one after another
abbrev pub SpellsValue : List Piece → List Mark → Type 0
SpellsValue [] text = text ≡ []
SpellsValue (piece ∷ pieces) text =
    (followed : List Mark) × SpellsPiece piece text followed × SpellsValue pieces followed

-- ---- settings

-- whether a word ends here
abbrev pub is_end : List Mark → Bool
is_end [] = true
is_end (m ∷ ms) = is_white_mark m

-- A value within quotes, which may hold white space.
pub record SpellsQuoted (value : List Piece) (text followed : List Mark) : Type 0 where
  pub inner : List Mark
  pub text_is : text ≡ marks.Byte 34 ∷ (inner ++ marks.Byte 34 ∷ followed)
  pub is_open : list_any (is_byte 34) inner ≡ false
  pub spelled : SpellsValue value inner

-- whether a quote with its special meaning comes first
abbrev pub quotes : List Mark → Bool
quotes [] = false
quotes (m ∷ ms) = is_byte 34 m

-- Any other value: it doesn't begin with a quote, and holds no white space.
pub record SpellsWord (value : List Piece) (text followed : List Mark) : Type 0 where
  pub inner : List Mark
  pub text_is : text ≡ inner ++ followed
  pub unquoted : quotes text ≡ false
  pub unbroken : list_any is_white_mark inner ≡ false
  pub spelled : SpellsValue value inner

abbrev pub word_of : Key → List Mark
word_of Default = map (λ b. marks.Byte b) (codes "DEFAULT=")
word_of Override = map (λ b. marks.Byte b) (codes "OVERRIDE=")

-- A setting: its key and its value, after white space, and up to the end of a word.
pub record SpellsSetting (key : Key) (value : List Piece) (text followed : List Mark) : Type 0 where
  pub white : List Mark
  pub at : List Mark
  pub text_is : text ≡ white ++ (word_of key ++ at)
  pub is_blank : list_all is_white_mark white ≡ true
  pub spelled : SpellsQuoted value at followed ⊎ SpellsWord value at followed
  pub ends : is_end followed ≡ true

-- a key and its value
pub record Given : Type 0 where
  pub key : Key
  pub value : List Piece

-- settings, one after another, and white space at the end
abbrev pub SpellsSettings : List Given → List Mark → Type 0
SpellsSettings [] text = list_all is_white_mark text ≡ true
SpellsSettings (given ∷ more) text =
    (followed : List Mark) × SpellsSetting given.key given.value text followed
    × SpellsSettings more followed

-- the values that settings give: for each key the last one, or these values if there is none
abbrev pub values_after : List Given → Values → Values
values_after [] values = values
values_after (given ∷ more) values = values_after more (with_value given.key given.value values)

-- ---- lines

-- what follows a name: nothing, or white space and what follows it
abbrev pub Follows : List ℕ → List ℕ → Type 0
Follows text settings =
    ((text ≡ []) × (settings ≡ [])) ⊎ ((w : ℕ) × (text ≡ w ∷ settings) × (is_white w ≡ true))

-- A line for a variable: its name, which has neither white space nor `=` and doesn't begin with `#`, and its settings.
pub record SpellsEntry (entry : EnvLine) (line : List ℕ) : Type 0 where
  pub white : List ℕ
  pub first : ℕ
  pub others : List ℕ
  pub tail : List ℕ
  pub settings : List ℕ
  pub given : List Given
  pub line_is : line ≡ white ++ (first ∷ others ++ tail)
  pub is_blank : list_all is_white white ≡ true
  pub uncommented : (first == 35) ≡ false
  pub unbroken : list_any is_white (first ∷ others) ≡ false
  pub unassigned : has_byte 61 (first ∷ others) ≡ false
  pub follows : Follows tail settings
  pub spelled : SpellsSettings given (marks_of settings)
  pub entry_is : entry ≡ record { name = first ∷ others; values = values_after given no_values }

-- A line that is skipped: all white space, or a comment after white space.
pub record IsPassedOver (line : List ℕ) : Type 0 where
  pub white : List ℕ
  pub comment : List ℕ
  pub line_is : line ≡ white ++ comment
  pub is_blank : list_all is_white white ≡ true
  pub is_comment : (comment ≡ []) ⊎ ((more : List ℕ) × (comment ≡ 35 ∷ more))

-- the variables of lines, in order
abbrev pub SpellsLines : List EnvLine → List (List ℕ) → Type 0
SpellsLines entries [] = entries ≡ []
SpellsLines entries (line ∷ lines) =
    (IsPassedOver line × SpellsLines entries lines)
    ⊎ ((entry : EnvLine) × (more : List EnvLine) × (entries ≡ entry ∷ more) × SpellsEntry entry line
    × SpellsLines more lines)

-- the variables of a text
abbrev pub SpellsConf : List EnvLine → List ℕ → Type 0
SpellsConf entries text = SpellsLines entries (lines_of text)
