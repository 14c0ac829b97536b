-- How a step changes files: only by the definitions of the modules of the lines that it runs, each
-- in the state that the line before it left (this project's own).
use Rattle.std.specs.Prelude.{◌≡◌, ◌⊎◌, ℕ, ◌+◌, Bool, List, [], ◌∷◌, map, Option, Some, None, slice_get, unwrap_or}
use Rattle.std.specs.List.{AllByRecursion}
use Rattle.pam_base.specs.declared.code.Code.{Code}
use Rattle.pam_base.specs.declared.code.Code.TheVariants.{ModuleUnknown}
use Rattle.pam_base.specs.declared.call.Func.{Func}
use Rattle.pam_base.specs.declared.call.Step.{Step}
use Rattle.pam_handle.specs.control_words.specs.Module.{name_of_module}
use Rattle.pam_handle.specs.control_words.specs.Stack.{Stack, none, line, sub, lines_in}
use Rattle.pam_handle.specs.control_words.specs.declared.nodes.Rule.{Rule}
use Rattle.pam_handle.specs.handler_chain.specs.FlatLines.{module_of, number_of_name}
use Rattle.pam_handle.specs.service_load.specs.Stacks.{Stacks}
use Rattle.pam_handle.specs.handler_chain.specs.Pass.{Answered}
use Rattle.pam_handle.specs.dispatch_core.specs.Lines.{answers_by, call_of, names_of}
use Rattle.pam_outside.specs.Files.{File}
use Rattle.pam_outside.specs.Time.{Time}
use Rattle.pam_handle.specs.pam_room.specs.Call.{PlainCall}
use Rattle.pam_handle.specs.pam_room.specs.Module.{NamedData, Played, Player, SeenRoom, Sight, named_data, seen_of, sight_of}
use Rattle.pam_handle.specs.pam_room.specs.Serve.{answer_or_incomplete, at_work}
use Rattle.pam_handle.specs.pam_room.specs.State.{PlainWorld, State, scene_in, state_of}
use Rattle.pam_handle.specs.pam_room.specs.declared.visits.Visit.{Visit}
use Rattle.pam_handle.specs.Handle.{PlainHandle}
use Rattle.pam_handle.specs.Items.{all_told}
use Rattle.pam_handle.specs.StackCalls.{flags_seen, room_begun}
use Rattle.pam_handle.specs.Stopping.{first_stack}
use Rattle.pam_library.specs.Slots.{PlainSlot, opened, slot_at}
use Rattle.pam_library.specs.StackOf.{stack_of}
use Rattle.pam_library.specs.Step.{stepped}

-- the module with this number, if there is one
abbrev pub player_numbered : List Player → Option ℕ → Option Player
player_numbered players None = None
player_numbered players (Some number) = slice_get players number

-- the module of a line: the first one with the name in its path, if there is one
abbrev pub module_of_path : List Player → List ℕ → Option Player
module_of_path players path =
    player_numbered players (number_of_name (name_of_module path) 0 (names_of players))

-- what a module was called with, and what it saw
pub record ModuleGets : Type 0 where
  pub call : PlainCall
  pub room : SeenRoom
  pub held : List NamedData
  pub sight : Sight

abbrev pub played : Player → ModuleGets → Played
played p a = p.plays a.call a.room a.held a.sight

-- what the line returns
abbrev pub answer_of : Played → Code
answer_of p = answer_or_incomplete p.room.put_off p.code

-- ---- lines that are run one after another

-- a line that was run: for which function and with which flags, its rule, and what was recorded of it
pub record LineRun : Type 0 where
  pub func : Func
  pub flags : ℕ
  pub rule : Rule
  pub visit : Visit

abbrev pub visit_of : ℕ → List ℕ → Code → Visit
visit_of place path answer = record { place = place; path = path; answer = answer }

-- a line that was run, and what its module got, if it exists
pub record AskedLine : Type 0 where
  pub visit : Visit
  pub asked : ModuleGets

-- the lines themselves, as they are recorded
abbrev pub visits_of : List AskedLine → List Visit
visits_of asked = map (λ (a : AskedLine). a.visit) asked

module _ (players : List Player) where
  -- what a line returns in a state, and the state after it
  abbrev pub run_in : LineRun → State → Answered State
  run_in l s = answers_by players l.func l.flags l.rule l.visit.place s

  -- Lines were run one after another, from a state on: each returned what is recorded of it.
  abbrev pub RunOn : List LineRun → State → State → Type 0
  RunOn [] s t = t ≡ s
  RunOn (l ∷ ls) s t = (l.visit ≡ visit_of l.visit.place l.rule.path (run_in l s).answer)
      × RunOn ls (run_in l s).state t

  -- what the module with this number gets in a state
  abbrev pub asked_by : Option ℕ → LineRun → State → ModuleGets
  asked_by number l s = record {
    call = call_of l.func l.flags l.rule;
    room = seen_of (at_work (unwrap_or number 0) s).room;
    held = named_data s.room.transaction.datums.live;
    sight = sight_of (scene_in s);
  }

  -- what the modules of lines that are run one after another get
  abbrev pub asked_along : List LineRun → State → List AskedLine
  asked_along [] s = []
  asked_along (l ∷ ls) s = record {
    visit = l.visit;
    asked = asked_by (module_of (names_of players) l.rule) l s;
  } ∷ asked_along ls (run_in l s).state

-- ---- a step

-- a rule is the line with this rule number of a stack whose first line has the number `at`
abbrev pub IsRuleAt : Rule → ℕ → Stack → ℕ → Type 0
IsRuleAt rule place none at = ⊥
IsRuleAt rule place (line r rest) at = ((rule ≡ r) × (place ≡ at))
    ⊎ IsRuleAt rule place rest (at + 1)
IsRuleAt rule place (sub inner rest) at = IsRuleAt rule place inner at
    ⊎ IsRuleAt rule place rest (at + lines_in inner)

-- A line belongs to the stack of a call, by its function and flags, and was run with the flags of one of its passes.
pub record IsLineOf (call : Func × ℕ) (stacks : Stacks) (l : LineRun) : Type 0 where
  pub func_is : l.func ≡ call.0
  pub second : Bool
  pub flags_are : l.flags ≡ flags_seen call.0 second call.1
  pub stands : IsRuleAt l.rule l.visit.place (first_stack call.0 stacks) 1

-- A stack call in a transaction ran these lines, one after another, beginning in the state in which
-- it found the transaction and the world; the files after the call are those that the last line
-- left.
pub record RunsLines (players : List Player) (h : PlainHandle) (w : PlainWorld) (call : Func × ℕ)
    (trail : List Visit) (asked : List AskedLine) (after : List File) : Type 0 where
  pub lines : List LineRun
  pub each : AllByRecursion (IsLineOf call h.stacks) lines
  pub recorded : map (λ (l : LineRun). l.visit) lines ≡ trail
  pub last : State
  pub ran : RunOn players lines (state_of (room_begun call.0 h) w) last
  pub asked_are : asked ≡ asked_along players lines (state_of (room_begun call.0 h) w)
  pub left : after ≡ last.world.vault.files

-- nothing was run, and the files are as before
pub record RunsNothing (w : PlainWorld) (trail : List Visit) (asked : List AskedLine)
    (after : List File) : Type 0 where
  pub recorded : trail ≡ []
  pub asked_are : asked ≡ []
  pub left : after ≡ w.vault.files

-- by the slot and, for a stack call, by its flags
abbrev pub RunsBy : List Player → PlainWorld → Option PlainSlot → Option (Func × ℕ) → List Visit
    → List AskedLine → List File → Type 0
RunsBy players w (Some (opened h)) (Some call) trail asked after =
    RunsLines players (all_told h) w call trail asked after
RunsBy players w slot call trail asked after = RunsNothing w trail asked after

-- what the modules of the lines that a step ran got, and that only their calls changed the files
abbrev pub StepAsks : List Player → (Code → ℕ → ℕ) → List PlainSlot → PlainWorld → Step
    → List AskedLine → Type 0
StepAsks players number_of slots w step asked =
    let t = stepped players number_of slots w step in
    RunsBy players w (slot_at slots step.number) (stack_of step.call) t.outcome.trail asked
    t.world.vault.files

-- ---- time

-- The modules of all these lines see this time.
abbrev pub AreAskedAt : Time → List AskedLine → Type 0
AreAskedAt time asked = AllByRecursion (λ (l : AskedLine). l.asked.sight.clock ≡ time) asked

-- ---- files

-- The module of a line that was run saw these files, and its definition gives what the line
-- returned; the rest holds for the files that it left. If there is no such module, the code was
-- MODULE_UNKNOWN, and the rest holds for the same files.
abbrev pub LineLeads : Option Player → AskedLine → List File → (List File → Type 0) → Type 0
LineLeads None l before next = (l.visit.answer ≡ ModuleUnknown) × next before
LineLeads (Some p) l before next = (l.asked.sight.files ≡ before)
    × (l.visit.answer ≡ answer_of (played p l.asked)) × next (played p l.asked).files

-- These lines lead from files to files: each module sees the files as the line before left them.
abbrev pub LinesLead : List Player → List File → List AskedLine → List File → Type 0
LinesLead players before [] after = after ≡ before
LinesLead players before (l ∷ ls) after =
    LineLeads (module_of_path players l.visit.path) l before (λ files.
    LinesLead players files ls after)
