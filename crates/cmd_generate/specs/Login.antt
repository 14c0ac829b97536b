-- One authentication by the generated service (this project's own).
use Rattle.std.specs.Prelude.{◌≡◌, ◌⊎◌, ℕ, false, codes, length, Option, Some, None, Result, Ok, Err}
use Rattle.pam_base.specs.Code.{number_of}
use Rattle.pam_base.specs.declared.code.Code.{Code}
use Rattle.pam_base.specs.declared.code.Code.TheVariants.{Success, SystemErr, BufErr}
use Rattle.pam_base.specs.declared.call.AppCall.{AppCall}
use Rattle.pam_base.specs.declared.call.AppCall.TheVariants as calls
use Rattle.pam_base.specs.declared.call.Step.{Step}
use Rattle.pam_base.specs.declared.fault.NoMemory as faults
use Rattle.pam_base.specs.declared.fault.Refuse.{Refuse}
use Rattle.pam_base.specs.declared.fault.Refuse.TheVariants.{NoMemory, Named}
use Rattle.service_load.specs.declared.load_fault.LoadFault.{LoadFault}
use Rattle.cmd_run.specs.pam_library.specs.declared.outcome.Answer.{Answer}
use Rattle.cmd_run.specs.pam_library.specs.declared.outcome.Answer.TheVariants as answers
use Rattle.cmd_run.specs.pam_library.specs.Outcome.{PlainOutcome}
use Rattle.cmd_run.specs.pam_library.specs.Step.{Stepped, stepped}
use Rattle.cmd_run.specs.pam_library.specs.Slots.{is_open_at, slot_at}
use Rattle.cmd_run.specs.Seen.{AllTell, NoneIsOpenIn, SessionSeen, Went, setting_in, state}
use Rattle.cmd_run.specs.State.{RunState, Setting, state_of}
use Rattle.cmd_run.specs.Step.{CallFails}
use Rattle.cmd_generate.specs.declared.login.Login.{Login}

-- ---- the calls, on the transaction with the number 1

abbrev pub step_of : AppCall → Step
step_of call = record { number = 1; call = call }

abbrev pub start_call : AppCall
start_call = calls.Start (codes "gen") (Some (codes "joe"))

abbrev pub authenticate_call : AppCall
authenticate_call = calls.Authenticate 0

abbrev pub state_in : Stepped → RunState
state_in t = state_of t.slots t.world

-- the code that an authentication returns; one in a transaction that was started returns one
abbrev pub code_in : Answer → Code
code_in (answers.Code code) = code
code_in answer = SystemErr

abbrev pub login_of : PlainOutcome → Login
login_of outcome = record { code = code_in outcome.answer; visited = length outcome.trail }

-- why a start is refused, if it is
abbrev pub refusal_in : Answer → Option LoadFault
refusal_in (answers.Refused fault) = Some fault
refusal_in answer = None

-- ---- its result: the code and how many lines were run, or why the start was refused; and the state after it

pub record Attempt : Type 0 where
  pub result : Result Login LoadFault
  pub state : RunState

module _ (setting : Setting) where
  unfoldable pub called : RunState → AppCall → Stepped
  called s call = stepped setting.players setting.delay s.slots s.world (step_of call)

  -- the transaction is ended with a status
  abbrev pub ended : ℕ → RunState → RunState
  ended status s = state_in (called s (calls.End status))

  abbrev pub authenticated : RunState → Attempt
  authenticated s = let t = called s authenticate_call in
      record { result = Ok (login_of t.outcome); state = ended (number_of Success) (state_in t) }

  -- by the result of the start: if it is refused, nothing more is called
  abbrev pub after_start : Option LoadFault → RunState → Attempt
  after_start (Some fault) s = record { result = Err fault; state = s }
  after_start None s = authenticated s

  abbrev pub logged_in : RunState → Attempt
  logged_in s = let t = called s start_call in
      after_start (refusal_in t.outcome.answer) (state_in t)

-- ---- if an allocation fails

module _ (setting : Setting) (s : RunState) where
  -- no start was made, or it ran out of memory
  abbrev pub StartStops : RunState → Type 0
  StartStops state = (state ≡ s) ⊎ CallFails setting (step_of start_call) s state

  -- a start that wasn't refused was made, and the authentication ran out of memory
  abbrev pub AuthenticateStops : RunState → Type 0
  AuthenticateStops state = let t = called setting s start_call in
      (refusal_in t.outcome.answer ≡ None)
      × CallFails setting (step_of authenticate_call) (state_in t) state

  -- one of these, and then the transaction was ended with BUF_ERR
  abbrev pub LoginStops : RunState → Type 0
  LoginStops state = (middle : RunState)
      × (StartStops middle ⊎ AuthenticateStops middle)
      × (state ≡ ended setting (number_of BufErr) middle)

-- ---- what is returned

-- the result of a start
abbrev pub Starts : {T : Type 0} → Result T (Refuse LoadFault) → Setting → RunState → RunState
    → Type 0
Starts (Ok done) setting s state = let t = called setting s start_call in
    (refusal_in t.outcome.answer ≡ None) × (state ≡ state_in t)
Starts (Err (Named fault)) setting s state = let t = called setting s start_call in
    (refusal_in t.outcome.answer ≡ Some fault) × (state ≡ state_in t)
Starts (Err NoMemory) setting s state = StartStops setting s state

-- the result of an authentication
abbrev pub Authenticates : Result Login faults.NoMemory → Setting → RunState → RunState → Type 0
Authenticates (Ok login) setting s state = let t = called setting s authenticate_call in
    (login ≡ login_of t.outcome) × (state ≡ state_in t)
Authenticates (Err none) setting s state = CallFails setting (step_of authenticate_call) s state

-- a start and then an authentication
abbrev pub Tries : Result Login (Refuse LoadFault) → Setting → RunState → RunState → Type 0
Tries (Ok login) setting s state =
    let t = called setting s start_call in
    let u = called setting (state_in t) authenticate_call in
    (refusal_in t.outcome.answer ≡ None) × (login ≡ login_of u.outcome) × (state ≡ state_in u)
Tries (Err (Named fault)) setting s state = let t = called setting s start_call in
    (refusal_in t.outcome.answer ≡ Some fault) × (state ≡ state_in t)
Tries (Err NoMemory) setting s state = StartStops setting s state ⊎ AuthenticateStops setting s state

-- the result of an attempt, which leaves one of these states if an allocation fails
abbrev pub ComesTo : Result Login (Refuse LoadFault) → Attempt → (RunState → Type 0) → RunState
    → Type 0
ComesTo (Ok login) a Stops state = (a.result ≡ Ok login) × (state ≡ a.state)
ComesTo (Err (Named fault)) a Stops state = (a.result ≡ Err fault) × (state ≡ a.state)
ComesTo (Err NoMemory) a Stops state = Stops state

-- ---- the ends that it makes, with real objects too

abbrev pub NoEnd : ℕ → ℕ → Type 0
NoEnd number status = ⊥

-- the transaction 1 is ended with this status
abbrev pub IsEndWith : ℕ → ℕ → ℕ → Type 0
IsEndWith ends number status = (number ≡ 1) × (status ≡ ends)

-- the status with which it is ended: BUF_ERR if an allocation failed, else SUCCESS
abbrev pub end_status : Result Login (Refuse LoadFault) → Code
end_status (Err NoMemory) = BufErr
end_status result = Success

-- ---- parts of an attempt, from what contracts see before one to what they see after it

-- what it does if all objects are modelled, by the modules and the delay function
abbrev pub PartTold : Type 1
PartTold = Setting → RunState → RunState → Type 0

abbrev pub IsTold : PartTold → SessionSeen → SessionSeen → Type 0
IsTold Told old new = (delay : Code → ℕ → ℕ) → old.gives delay → AllTell old
    → Told (setting_in old delay) (state old) (state new)

-- with real objects too: it leaves every other transaction as it is, and makes these ends
pub record MakesCalls (Told : PartTold) (Is : ℕ → ℕ → Type 0) (old new : SessionSeen) : Type 0 where
  pub told : IsTold Told old new
  pub others : (number : ℕ) → (number ≡ 1 → ⊥) → slot_at new.slots number ≡ slot_at old.slots number
  pub went : Went Is old new

-- with real objects too: no transaction is open after it, and it makes these ends
pub record IsOver (Told : PartTold) (Is : ℕ → ℕ → Type 0) (old new : SessionSeen) : Type 0 where
  pub told : IsTold Told old new
  pub none_open : NoneIsOpenIn new
  pub went : Went Is old new

-- with real objects too: the transaction is ended with this status, if it is open, and no other one is
pub record EndsWith (status : ℕ) (old new : SessionSeen) : Type 0 where
  pub ends : (delay : Code → ℕ → ℕ) → state new ≡ ended (setting_in old delay) status (state old)
  pub others : (number : ℕ) → (number ≡ 1 → ⊥) → slot_at new.slots number ≡ slot_at old.slots number
  pub closed : is_open_at (slot_at new.slots 1) ≡ false
  pub went : Went (IsEndWith status) old new
