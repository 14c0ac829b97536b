-- The command `generate` (this project's own).
use Rattle.std.specs.Prelude.{◌≡◌, ◌≢◌, ◌⊎◌, ℕ, ◌+◌, ◌≤◌, List, [], ◌++◌, length, codes, decimal, Option, Some, None, Result, Ok, Err, OnOk, IfOk, IsTrue}
use Rattle.pam_base.specs.Code.{number_of, name_of}
use Rattle.pam_base.specs.declared.code.Code.{Code}
use Rattle.pam_base.specs.declared.code.Code.TheVariants.{Success, BufErr}
use Rattle.pam_base.specs.declared.fault.NoMemory as faults
use Rattle.pam_base.specs.declared.fault.Refuse.{Refuse}
use Rattle.pam_base.specs.declared.fault.Refuse.TheVariants.{Named}
use Rattle.pam_base.specs.declared.fault.Refuse.TheVariants as refusals
use Rattle.pam_outside.specs.Counts.{RisesIf}
use Rattle.pam_outside.specs.Files.{VaultState}
use Rattle.pam_outside.specs.Streams.{SinkState}
use Rattle.random_config.specs.Files.{count_of, random_files}
use Rattle.cmd_run.specs.record_reader.specs.Object.{Object}
use Rattle.cmd_run.specs.record_reader.specs.Turns.{has_write_fault}
use Rattle.cmd_run.specs.record_reader.specs.declared.ending.Stop.{Stop}
use Rattle.cmd_run.specs.record_reader.specs.declared.ending.Stop.TheVariants.{NoMemory}
use Rattle.cmd_run.specs.pam_room.specs.State.{PlainWorld}
use Rattle.service_load.specs.declared.load_fault.LoadFault.{LoadFault}
use Rattle.cmd_run.specs.report_step.specs.Fault.{refused_text}
use Rattle.cmd_run.specs.Reading.{WritesScript}
use Rattle.cmd_run.specs.Seen.{AllTell, NoneIsOpenIn, SessionSeen, Went, setting_in, state}
use Rattle.cmd_run.specs.State.{RunState, Setting, state_of}
use Rattle.cmd_generate.specs.declared.generating.Finding.{Finding}
use Rattle.cmd_generate.specs.declared.generating.Generated.{Generated}
use Rattle.cmd_generate.specs.declared.generating.Generated.TheVariants.{Written, Refused}
use Rattle.cmd_generate.specs.declared.login.Login.{Login}
use Rattle.cmd_generate.specs.Login.{Attempt, IsEndWith, LoginStops, logged_in}
use Rattle.cmd_generate.specs.Placing.{PlacesSome, placed, with_vault}

-- the world under the root `/`, with nobody as the caller
abbrev pub from_root : PlainWorld → PlainWorld
from_root w = record w { process = record w.process { root = codes "/"; caller = 65534 } }

module _ (setting : Setting) where
  -- the login, if all files were stored
  abbrev pub after_files : Option LoadFault → RunState → Attempt
  after_files (Some fault) s = record { result = Err fault; state = s }
  after_files None s = logged_in setting s

  -- the files generated from a seed are stored, and the service authenticates a user
  abbrev pub attempted : ℕ → ℕ → RunState → Attempt
  attempted seed lines s =
      let p = placed (random_files seed lines) s.world.vault in
      after_files p.fault (state_of s.slots (with_vault p.vault (from_root s.world)))

  -- An allocation failed: before anything was done, before a file was stored, among the files, or in the login.
  abbrev pub AttemptStops : ℕ → ℕ → RunState → RunState → Type 0
  AttemptStops seed lines s state =
      let files = random_files seed lines in
      let p = placed files s.world.vault in
      (state ≡ s) ⊎ ((state ≡ state_of s.slots (from_root s.world))
      ⊎ (((vault : VaultState) × PlacesSome files s.world.vault vault
      × (state ≡ state_of s.slots (with_vault vault (from_root s.world))))
      ⊎ ((p.fault ≡ None)
      × LoginStops setting (state_of s.slots (with_vault p.vault (from_root s.world))) state)))

-- `generated LINES files K code NAME NUMBER visited COUNT`
abbrev pub generated_text : ℕ → Login → List ℕ
generated_text lines login =
    codes "generated " ++ (decimal lines ++ (codes " files " ++ (decimal (count_of lines)
    ++ (codes " code " ++ (name_of login.code
    ++ (codes " " ++ (decimal (number_of login.code)
    ++ (codes " visited " ++ (decimal login.visited ++ codes "\n")))))))))

-- what is written, and whether it is the line of a login
abbrev pub text_of : ℕ → Result Login LoadFault → List ℕ
text_of lines (Ok login) = generated_text lines login
text_of lines (Err fault) = refused_text fault

abbrev pub found_by : Result Login LoadFault → Generated
found_by (Ok login) = Written
found_by (Err fault) = Refused

-- what `generate` writes and returns, and the state after it; also the states that it may leave if
-- an allocation fails
pub record Generation : Type 1 where
  pub text : List ℕ
  pub generated : Generated
  pub state : RunState
  pub stops : RunState → Type 0

-- an allocation failed in the attempt, or for the line after it
unfoldable pub generation : Setting → ℕ → ℕ → RunState → Generation
generation setting seed lines s = let a = attempted setting seed lines s in record {
  text = text_of lines a.result;
  generated = found_by a.result;
  state = a.state;
  stops = λ state. AttemptStops setting seed lines s state ⊎ (state ≡ a.state);
}

-- what is found of an attempt, if no allocation failed
abbrev pub IsFound : Finding → ℕ → Result Login (Refuse LoadFault) → Type 0
IsFound finding lines (Ok login) = (finding.generated ≡ Written)
    × (finding.text ≡ generated_text lines login)
IsFound finding lines (Err (Named fault)) = (finding.generated ≡ Refused)
    × (finding.text ≡ refused_text fault)
IsFound finding lines (Err refusals.NoMemory) = ⊥

-- a finding and the state after it are those of a generation
pub record Finds (finding : Finding) (g : Generation) (state : RunState) : Type 0 where
  pub generated : finding.generated ≡ g.generated
  pub text : finding.text ≡ g.text
  pub state_is : state ≡ g.state

-- the same, or an allocation failed
abbrev pub FindsOrStops : Result Finding faults.NoMemory → Generation → RunState → Type 0
FindsOrStops (Ok finding) g state = Finds finding g state
FindsOrStops (Err none) g state = g.stops state

-- This was the result, and its line is written, or a prefix of it if a write failed. If an allocation fails, nothing is
-- written, and the state is one that may be left then.
pub record Generates (result : Result Generated Stop) (g : Generation) (state : RunState)
    (old new : SinkState) : Type 0 where
  pub front : List ℕ
  pub back : List ℕ
  pub parts : g.text ≡ front ++ back
  pub written : new.written ≡ old.written ++ front
  pub all : OnOk result (front ≡ g.text)
  pub none : result ≡ Err NoMemory → front ≡ []
  pub generated : IfOk result (λ generated. generated ≡ g.generated)
  pub state_is : result ≢ Err NoMemory → state ≡ g.state
  pub stopped : result ≡ Err NoMemory → g.stops state
  pub writes : new.calls ≤ old.calls + length front + 1

-- ---- the ends that it makes, with real objects too

-- the end of transaction 1, with SUCCESS or, if an allocation failed, with BUF_ERR
abbrev pub IsEndWithoutMemory : ℕ → ℕ → Type 0
IsEndWithoutMemory number status = (number ≡ 1)
    × ((status ≡ number_of Success) ⊎ (status ≡ number_of BufErr))

abbrev pub IsEndOfFinding : Result Finding faults.NoMemory → ℕ → ℕ → Type 0
IsEndOfFinding (Ok finding) = IsEndWith (number_of Success)
IsEndOfFinding (Err none) = IsEndWithoutMemory

abbrev pub IsEndOfGenerate : Result Generated Stop → ℕ → ℕ → Type 0
IsEndOfGenerate (Err NoMemory) = IsEndWithoutMemory
IsEndOfGenerate result = IsEndWith (number_of Success)

-- ---- what contracts see of it

pub record IsGenerated (seed lines : ℕ) (result : Result Generated Stop) (old new : SessionSeen)
    (output : Object SinkState) : Type 0 where
  -- If all objects are modelled: what was written, and the library and world afterwards.
  pub told : (delay : Code → ℕ → ℕ) → old.gives delay → AllTell old → IsTrue output.tells
      → Generates result (generation (setting_in old delay) seed lines (state old)) (state new)
      output.old output.new
  -- If only the sink is modelled: how often it was written.
  pub writes : IsTrue output.tells → WritesScript output.old output.new
  -- With real objects too: no transaction is open, and with which status it was ended.
  pub none_open : NoneIsOpenIn new
  pub went : Went (IsEndOfGenerate result) old new
  pub faults : RisesIf (has_write_fault result) output.faults_before output.faults_after
  -- What is modelled before it is modelled after it.
  pub sink_tells : output.tells_after ≡ output.tells
