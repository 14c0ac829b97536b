-- A step, written as a line of the script (this project's own).
use Rattle.std.specs.Prelude.{ℕ, ◌^◌, Bool, true, false, List, [], ◌∷◌, ◌++◌, length, Some, None, codes, decimal, nat_le, nat_lt, not, ◌&&◌}
use Rattle.std.specs.List.{join_with_byte}
use Rattle.pam_base.specs.declared.call.AppCall.{AppCall}
use Rattle.pam_base.specs.declared.call.AppCall.TheVariants as calls
use Rattle.pam_base.specs.declared.call.Step.{Step}
use Rattle.pam_base.specs.Bytes.{has_byte}
use Rattle.pam_base.specs.Item.{item_word}
use Rattle.script_lang.specs.Command.{word_of_call}
use Rattle.pam_base.specs.ServiceName.{is_service_name}

abbrev pub switch_word : Bool → List ℕ
switch_word true = codes "on"
switch_word false = codes "off"

-- the words after the command's and the number
abbrev pub arguments_of : AppCall → List (List ℕ)
arguments_of (calls.Start service None) = service ∷ []
arguments_of (calls.Start service (Some user)) = service ∷ user ∷ []
arguments_of (calls.End status) = decimal status ∷ []
arguments_of (calls.Authenticate flags) = decimal flags ∷ []
arguments_of (calls.SetCred flags) = decimal flags ∷ []
arguments_of (calls.AcctMgmt flags) = decimal flags ∷ []
arguments_of (calls.OpenSession flags) = decimal flags ∷ []
arguments_of (calls.CloseSession flags) = decimal flags ∷ []
arguments_of (calls.ChAuthTok flags) = decimal flags ∷ []
arguments_of (calls.SetItem item None) = item_word item ∷ []
arguments_of (calls.SetItem item (Some value)) = item_word item ∷ value ∷ []
arguments_of (calls.GetItem item) = item_word item ∷ []
arguments_of (calls.PutEnv text) = text ∷ []
arguments_of (calls.GetEnv name) = name ∷ []
arguments_of calls.EnvList = []
arguments_of (calls.FailDelay micros) = decimal micros ∷ []
arguments_of (calls.DelayFn on) = switch_word on ∷ []
arguments_of (calls.Reply text) = text ∷ []

-- a step as a line, its words with single spaces between them
abbrev pub text_of_step : Step → List ℕ
text_of_step step = join_with_byte 32 (word_of_call step.call ∷ decimal step.number
    ∷ arguments_of step.call)

-- the same with a carriage return after it, so that one that is part of the text isn't dropped
abbrev pub line_of : Step → List ℕ
line_of step = text_of_step step ++ codes "\r"

-- a word that isn't empty
abbrev pub is_name : List ℕ → Bool
is_name word = nat_lt 0 (length word) && not (has_byte 32 word)

abbrev pub is_number : ℕ → Bool
is_number n = nat_lt n (2 ^ 32)

-- whether the parts of a call can be written
abbrev pub is_sound : AppCall → Bool
is_sound (calls.Start service None) = is_service_name service
is_sound (calls.Start service (Some user)) = is_service_name service && is_name user
is_sound (calls.End status) = is_number status
is_sound (calls.Authenticate flags) = is_number flags
is_sound (calls.SetCred flags) = is_number flags
is_sound (calls.AcctMgmt flags) = is_number flags
is_sound (calls.OpenSession flags) = is_number flags
is_sound (calls.CloseSession flags) = is_number flags
is_sound (calls.ChAuthTok flags) = is_number flags
is_sound (calls.SetItem item value) = true
is_sound (calls.GetItem item) = true
is_sound (calls.PutEnv text) = true
is_sound (calls.GetEnv name) = is_name name
is_sound calls.EnvList = true
is_sound (calls.FailDelay micros) = is_number micros
is_sound (calls.DelayFn on) = true
is_sound (calls.Reply text) = true

-- whether a step can be written: its numbers have 32 bits, its names are words, and its line isn't too long
abbrev pub is_writable : Step → Bool
is_writable step = is_number step.number && is_sound step.call
    && nat_le (length (text_of_step step)) 512
