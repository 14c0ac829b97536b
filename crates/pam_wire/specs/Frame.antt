-- Frames: which bytes encode which step (this project's own; the calls are those of pam(3)). A
-- frame is two bytes, big-endian, the number of bytes that follow, then the transaction's number,
-- the kind, and what the kind has after it.
use Rattle.std.specs.Prelude.{◌≡◌, ℕ, ◌<◌, ◌^◌, Bool, true, false, List, [], ◌∷◌, ◌++◌, length, Option, Some, None, All, IsTrue, nat_le, nat_lt, ◌&&◌}
use Rattle.std.specs.Int.{w16, w32, w64, to_be_bytes}
use Rattle.pam_base.specs.declared.call.AppCall.{AppCall}
use Rattle.pam_base.specs.declared.call.AppCall.TheVariants as calls
use Rattle.pam_base.specs.declared.call.Step.{Step}
use Rattle.pam_base.specs.Item.{item_number}
use Rattle.pam_base.specs.ServiceName.{is_service_name}
use Rattle.pam_base.specs.Call.{name_of_call}
use Rattle.pam_wire.specs.Kind.{number_of}

-- ---- what follows a kind

-- a number has four bytes, big-endian
abbrev pub number_bytes : ℕ → List ℕ
number_bytes n = to_be_bytes w32 n

-- 0 for none; or 1 and the text, which runs to the frame's end
abbrev pub value_bytes : Option (List ℕ) → List ℕ
value_bytes None = 0 ∷ []
value_bytes (Some text) = 1 ∷ text

abbrev pub switch_bytes : Bool → List ℕ
switch_bytes false = 0 ∷ []
switch_bytes true = 1 ∷ []

-- the table
abbrev pub rest_of : AppCall → List ℕ
rest_of (calls.Start service user) = length service ∷ service ++ value_bytes user
rest_of (calls.End status) = number_bytes status
rest_of (calls.Authenticate flags) = number_bytes flags
rest_of (calls.SetCred flags) = number_bytes flags
rest_of (calls.AcctMgmt flags) = number_bytes flags
rest_of (calls.OpenSession flags) = number_bytes flags
rest_of (calls.CloseSession flags) = number_bytes flags
rest_of (calls.ChAuthTok flags) = number_bytes flags
rest_of (calls.SetItem item value) = item_number item ∷ value_bytes value
rest_of (calls.GetItem item) = item_number item ∷ []
rest_of (calls.PutEnv text) = text
rest_of (calls.GetEnv name) = name
rest_of calls.EnvList = []
rest_of (calls.FailDelay micros) = number_bytes micros
rest_of (calls.DelayFn on) = switch_bytes on
rest_of (calls.Reply text) = text

-- ---- which steps have a frame

abbrev pub is_number : ℕ → Bool
is_number n = nat_lt n (2 ^ 32)

abbrev pub is_text : List ℕ → Bool
is_text text = nat_le (length text) 512

abbrev pub is_value : Option (List ℕ) → Bool
is_value None = true
is_value (Some text) = is_text text

abbrev pub is_name : List ℕ → Bool
is_name name = nat_lt 0 (length name) && is_text name

abbrev pub is_sound : AppCall → Bool
is_sound (calls.Start service user) = is_service_name service && is_value user
is_sound (calls.End status) = is_number status
is_sound (calls.Authenticate flags) = is_number flags
is_sound (calls.SetCred flags) = is_number flags
is_sound (calls.AcctMgmt flags) = is_number flags
is_sound (calls.OpenSession flags) = is_number flags
is_sound (calls.CloseSession flags) = is_number flags
is_sound (calls.ChAuthTok flags) = is_number flags
is_sound (calls.SetItem item value) = is_value value
is_sound (calls.GetItem item) = true
is_sound (calls.PutEnv text) = is_text text
is_sound (calls.GetEnv name) = is_name name
is_sound calls.EnvList = true
is_sound (calls.FailDelay micros) = is_number micros
is_sound (calls.DelayFn on) = true
is_sound (calls.Reply text) = is_text text

-- its number has one byte, its numbers have four, and its texts are within their limits
abbrev pub has_frame : Step → Bool
has_frame step = nat_le step.number 255 && is_sound step.call

-- ---- the frame of a step

-- what follows its length
abbrev pub body_of : Step → List ℕ
body_of step = step.number ∷ number_of (name_of_call step.call) ∷ rest_of step.call

abbrev pub sized : List ℕ → List ℕ
sized body = to_be_bytes w16 (length body) ++ body

abbrev pub frame_of : Step → List ℕ
frame_of step = sized (body_of step)

-- the bytes are the frame of the step
pub record IsFrame (bytes : List ℕ) (step : Step) : Type 0 where
  pub within : IsTrue (has_frame step)
  pub bytes_are : bytes ≡ frame_of step

-- the frames of steps, one after the other
abbrev pub frames_of : List Step → List ℕ
frames_of [] = []
frames_of (step ∷ steps) = frame_of step ++ frames_of steps

-- ---- answers

-- a report after its length of eight bytes, big-endian
abbrev pub answer_of : List ℕ → List ℕ
answer_of report = to_be_bytes w64 (length report) ++ report

-- each is a byte
abbrev pub AreBytes : List ℕ → Type 0
AreBytes bytes = All (λ b. b < 256) bytes
