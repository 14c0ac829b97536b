-- Reading a frame: the step that some bytes are the frame of, if there is one.
use Rattle.std.specs.Prelude.{ℕ, ◌+◌, ◌==◌, Bool, true, false, List, [], ◌∷◌, length, take, drop, Option, Some, None, option_map, nat_le, nat_lt, ◌&&◌, ◌||◌, if◌then◌else◌}
use Rattle.std.specs.Int.{w16, w32, from_be_bytes}
use Rattle.std.specs.List.{find}
use Rattle.pam_base.specs.declared.call.AppCall.{AppCall}
use Rattle.pam_base.specs.declared.call.AppCall.TheVariants as calls
use Rattle.pam_base.specs.declared.call.Step.{Step}
use Rattle.pam_base.specs.declared.item.ItemName.{ItemName}
use Rattle.pam_base.specs.Item.{item_number, all_items}
use Rattle.pam_base.specs.ServiceName.{is_service_name}
use Rattle.pam_base.specs.declared.call.CallName.{CallName}
use Rattle.pam_base.specs.declared.call.CallName.TheVariants as names
use Rattle.pam_base.specs.Call.{stack_call}
use Rattle.pam_wire.specs.declared.prefix.FirstFrame.{FirstFrame}
use Rattle.pam_wire.specs.declared.prefix.FirstFrame.TheVariants.{Open, OutOfRange, Whole}
use Rattle.pam_wire.specs.Frame.{is_text, is_name}
use Rattle.pam_wire.specs.Kind.{call_of_number}

-- ---- what follows a kind

abbrev pub number_in : List ℕ → Option ℕ
number_in rest = if length rest == 4 then Some (from_be_bytes w32 rest) else None

abbrev pub text_in : List ℕ → Option (List ℕ)
text_in rest = if is_text rest then Some rest else None

abbrev pub name_in : List ℕ → Option (List ℕ)
name_in rest = if is_name rest then Some rest else None

abbrev pub no_text : List ℕ → Option (Option (List ℕ))
no_text [] = Some None
no_text (b ∷ bs) = None

abbrev pub value_in : List ℕ → Option (Option (List ℕ))
value_in [] = None
value_in (b ∷ text) =
    if b == 0 then no_text text else if b == 1 then option_map Some (text_in text) else None

abbrev pub switch_in : List ℕ → Option Bool
switch_in (b ∷ []) = if b == 0 then Some false else if b == 1 then Some true else None
switch_in rest = None

abbrev pub item_of_number : ℕ → Option ItemName
item_of_number number = find (λ item. item_number item == number) all_items

abbrev pub item_in : List ℕ → Option ItemName
item_in (b ∷ []) = item_of_number b
item_in rest = None

abbrev pub setting_of : Option ItemName → List ℕ → Option AppCall
setting_of None rest = None
setting_of (Some item) rest = option_map (calls.SetItem item) (value_in rest)

abbrev pub setting_in : List ℕ → Option AppCall
setting_in [] = None
setting_in (b ∷ rest) = setting_of (item_of_number b) rest

abbrev pub start_in : List ℕ → Option AppCall
start_in [] = None
start_in (size ∷ rest) =
    if nat_le size (length rest) && is_service_name (take size rest)
    then option_map (calls.Start (take size rest)) (value_in (drop size rest))
    else None

abbrev pub list_in : List ℕ → Option AppCall
list_in [] = Some calls.EnvList
list_in (b ∷ bs) = None

-- the call of a kind
abbrev pub call_in : CallName → List ℕ → Option AppCall
call_in names.Start rest = start_in rest
call_in names.End rest = option_map calls.End (number_in rest)
call_in (names.Run func) rest = option_map (stack_call func) (number_in rest)
call_in names.SetItem rest = setting_in rest
call_in names.GetItem rest = option_map calls.GetItem (item_in rest)
call_in names.PutEnv rest = option_map calls.PutEnv (text_in rest)
call_in names.GetEnv rest = option_map calls.GetEnv (name_in rest)
call_in names.EnvList rest = list_in rest
call_in names.FailDelay rest = option_map calls.FailDelay (number_in rest)
call_in names.DelayFn rest = option_map calls.DelayFn (switch_in rest)
call_in names.Reply rest = option_map calls.Reply (text_in rest)

abbrev pub call_of_kind : Option CallName → List ℕ → Option AppCall
call_of_kind None rest = None
call_of_kind (Some kind) rest = call_in kind rest

abbrev pub step_with : ℕ → AppCall → Step
step_with number call = record { number = number; call = call }

-- the step of what follows a length
abbrev pub step_in : List ℕ → Option Step
step_in (number ∷ kind ∷ rest) =
    option_map (step_with number) (call_of_kind (call_of_number kind) rest)
step_in body = None

-- ---- how long a frame is

-- How long a frame is: its first two bytes say so, and so many bytes have to follow; the length may
-- be 2 to 580.
abbrev pub first_frame_by : ℕ → ℕ → FirstFrame
first_frame_by said follow =
    if nat_lt said 2 || nat_lt 580 said then OutOfRange
    else if nat_le said follow then Whole (said + 2) else Open

-- what some bytes begin with; a first byte alone says that the length is at least 256 times that
-- byte
abbrev pub first_frame_of : List ℕ → FirstFrame
first_frame_of [] = Open
first_frame_of (a ∷ []) = if nat_lt 2 a then OutOfRange else Open
first_frame_of (a ∷ b ∷ more) = first_frame_by (from_be_bytes w16 (a ∷ b ∷ [])) (length more)

-- ---- the step of a frame

abbrev pub step_by : FirstFrame → List ℕ → Option Step
step_by (Whole size) bytes = if size == length bytes then step_in (drop 2 bytes) else None
step_by other bytes = None

abbrev pub step_of : List ℕ → Option Step
step_of bytes = step_by (first_frame_of bytes) bytes
