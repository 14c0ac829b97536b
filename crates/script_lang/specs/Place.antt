-- The places of a command's words, and which words they allow (this project's own).
use Rattle.std.specs.Prelude.{Bool, true, false, Option, Some, None}
use Rattle.pam_base.specs.declared.fault.ScriptKind.{ScriptKind}
use Rattle.pam_base.specs.declared.fault.ScriptKind.TheVariants.{BadWord, BadNumeral}
use Rattle.script_lang.specs.declared.place.Form.{Form}
use Rattle.script_lang.specs.declared.place.Form.TheVariants as forms
use Rattle.script_lang.specs.declared.place.Position.{Position}
use Rattle.script_lang.specs.declared.place.Position.TheVariants.{Wanted, Optional, Nothing}

-- the fault of a word that isn't of a form
abbrev pub fault_of : Form → ScriptKind
fault_of forms.Number = BadNumeral
fault_of forms.Moment = BadNumeral
fault_of forms.Random = BadNumeral
fault_of forms.Service = BadWord
fault_of forms.Name = BadWord
fault_of forms.Item = BadWord
fault_of forms.Switch = BadWord
fault_of forms.Text = BadWord

-- the form of the word at a place, if it allows one
abbrev pub form_of : Position → Option Form
form_of (Wanted form) = Some form
form_of (Optional form) = Some form
form_of Nothing = None

abbrev pub is_wanted : Position → Bool
is_wanted (Wanted form) = true
is_wanted (Optional form) = false
is_wanted Nothing = false

-- whether the word at the place is all that is left of the line
abbrev pub takes_rest : Option Form → Bool
takes_rest (Some forms.Text) = true
takes_rest (Some form) = false
takes_rest None = false

abbrev pub is_text : Position → Bool
is_text place = takes_rest (form_of place)
