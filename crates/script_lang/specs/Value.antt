-- The values of the words at a command's places (this project's own).
use Rattle.std.specs.Prelude.{ℕ, Bool, true, false, List, [], length, Option, Some, None, Result, Ok, Err, codes, option_map, nat_lt, slice_index_or, if◌then◌else◌}
use Rattle.std.specs.Str.{bytes_eq}
use Rattle.std.specs.Option.{ok_or}
use Rattle.pam_base.specs.declared.fault.ScriptKind.{ScriptKind}
use Rattle.pam_base.specs.declared.item.ItemName.{ItemName}
use Rattle.pam_base.specs.declared.item.ItemName.TheVariants as items
use Rattle.pam_base.specs.Item.{item_of_word}
use Rattle.script_lang.specs.declared.place.Form.{Form}
use Rattle.script_lang.specs.declared.place.Form.TheVariants as forms
use Rattle.script_lang.specs.declared.place.Position.{Position}
use Rattle.script_lang.specs.declared.place.Position.TheVariants.{Nothing}
use Rattle.script_lang.specs.declared.value.Value.{Value}
use Rattle.script_lang.specs.declared.value.Value.TheVariants as values
use Rattle.script_lang.specs.declared.value.Values.{Values}
use Rattle.script_lang.specs.Place.{fault_of, form_of}
use Rattle.script_lang.specs.Number.{number_of_word, random_of_word, moment_of_word}
use Rattle.pam_base.specs.ServiceName.{is_service_name}
use Rattle.script_lang.specs.Cut.{word_at}

-- the value of the word at a place; nothing if there is none
pub data Meaning : Type 0 where
  absent : Meaning
  number : ℕ → Meaning
  wide : ℕ → Meaning
  item : ItemName → Meaning
  bytes : List ℕ → Meaning
  switch : Bool → Meaning

-- the values of the words at a command's three places
pub record Meanings : Type 0 where
  pub first : Meaning
  pub second : Meaning
  pub third : Meaning

-- the meaning that a value carries
abbrev pub meaning_of : Value → Meaning
meaning_of values.Absent = absent
meaning_of (values.Number n) = number n
meaning_of (values.Wide n) = wide n
meaning_of (values.Item i) = item i
meaning_of (values.Bytes b) = bytes b.now
meaning_of (values.Switch on) = switch on

abbrev pub meanings_of : Values → Meanings
meanings_of v = record {
  first = meaning_of v.first;
  second = meaning_of v.second;
  third = meaning_of v.third;
}

-- the same for a result
abbrev pub carried : Result Value ScriptKind → Result Meaning ScriptKind
carried (Ok value) = Ok (meaning_of value)
carried (Err fault) = Err fault

abbrev pub carried_all : Result Values ScriptKind → Result Meanings ScriptKind
carried_all (Ok values) = Ok (meanings_of values)
carried_all (Err fault) = Err fault

abbrev pub switch_of_word : List ℕ → Option Bool
switch_of_word word = if bytes_eq word (codes "on") then Some true
    else if bytes_eq word (codes "off") then Some false else None

-- the value of a word of a form, if it is of the form
abbrev pub meaning_in : Form → List ℕ → Option Meaning
meaning_in forms.Number word = option_map number (number_of_word word)
meaning_in forms.Moment word = option_map wide (moment_of_word word)
meaning_in forms.Random word = option_map wide (random_of_word word)
meaning_in forms.Service word = if is_service_name word then Some (bytes word) else None
meaning_in forms.Name word = if nat_lt 0 (length word) then Some (bytes word) else None
meaning_in forms.Item word = option_map item (item_of_word word)
meaning_in forms.Switch word = option_map switch (switch_of_word word)
meaning_in forms.Text word = Some (bytes word)

-- the value of the word for a place, or its fault
abbrev pub meaning_of_word : Option Form → Option (List ℕ) → Result Meaning ScriptKind
meaning_of_word (Some form) (Some word) = ok_or (meaning_in form word) (fault_of form)
meaning_of_word (Some form) None = Ok absent
meaning_of_word None word = Ok absent

-- place i, from 0
abbrev pub place_at : List Position → ℕ → Position
place_at places i = slice_index_or places i Nothing

abbrev pub meaning_at : Position → ℕ → List (List ℕ) → Result Meaning ScriptKind
meaning_at place before words = meaning_of_word (form_of place) (word_at place before words)

-- all three, or the leftmost fault
abbrev pub all_of : Result Meaning ScriptKind → Result Meaning ScriptKind
    → Result Meaning ScriptKind → Result Meanings ScriptKind
all_of (Err fault) second third = Err fault
all_of (Ok first) (Err fault) third = Err fault
all_of (Ok first) (Ok second) (Err fault) = Err fault
all_of (Ok first) (Ok second) (Ok third) =
    Ok (record { first = first; second = second; third = third })

-- the values of the words at a command's places, or the fault of the leftmost word that isn't of
-- its form
abbrev pub meanings_at : List Position → List (List ℕ) → Result Meanings ScriptKind
meanings_at places words =
    all_of (meaning_at (place_at places 0) 1 words) (meaning_at (place_at places 1) 2 words)
    (meaning_at (place_at places 2) 3 words)

-- ---- the parts of a call that are given by words; without a word: 0, off, nothing or SERVICE

abbrev pub number_of : Meaning → ℕ
number_of (number n) = n
number_of other = 0

abbrev pub wide_of : Meaning → ℕ
wide_of (wide n) = n
wide_of other = 0

abbrev pub item_of : Meaning → ItemName
item_of (item i) = i
item_of other = items.Service

abbrev pub bytes_of : Meaning → List ℕ
bytes_of (bytes b) = b
bytes_of other = []

abbrev pub text_of : Meaning → Option (List ℕ)
text_of (bytes b) = Some b
text_of other = None

abbrev pub is_on : Meaning → Bool
is_on (switch on) = on
is_on other = false
