-- Which frames are read, and the result of a run over them, in definitions that no reader uses.
use Rattle.std.specs.Prelude.{◌≡◌, ℕ, ◌+◌, ◌≤◌, Bool, true, List, ◌++◌, length, map, Option, None}
use Rattle.std.specs.List.{concat}
use Rattle.pam_base.specs.declared.call.Step.{Step}
use Rattle.pam_wire.specs.Frame.{AreBytes, frame_of}
use Rattle.pam_wire.specs.Stream.{AreFramesOf}
use Rattle.record_reader.specs.Run.{come_to, run_items, run_of}
use Rattle.frame_stream.specs.declared.fault.FrameFault.{FrameFault}
use Rattle.frame_stream.specs.Looked.{looked}
use Rattle.frame_stream.specs.Run.{CallStep, step_at}
use Rattle.frame_stream.specs.Spelled.{SpellsFrom, answers_to, state_past}

-- the frames of steps are read first, and then what follows them
abbrev pub StepsAreLookedAt : Type 0
StepsAreLookedAt = (n : ℕ) (bytes : List ℕ) (steps : List Step) (rest : List ℕ) (ended : Bool)
    → AreFramesOf bytes steps rest → n + length steps ≤ 65536
    → looked n bytes ended ≡ map frame_of steps ++ looked (n + length steps) rest ended

-- if the input ends after some bytes, all of them are read, in order
abbrev pub AllAreLookedAt : Type 0
AllAreLookedAt = (n : ℕ) (bytes : List ℕ) → concat (looked n bytes true) ≡ bytes

-- all bytes spell some steps, and have something after them
abbrev pub BytesSpell : Type 0
BytesSpell = (n : ℕ) (bytes : List ℕ) (ended : Bool) → n ≤ 65536 → AreBytes bytes →
    (steps : List Step) × (rest : List ℕ) × (fault : Option FrameFault)
    × SpellsFrom n bytes ended steps rest fault

module _ {State : Type 0} (answers : CallStep State) where
  -- the result of a run over some bytes is that of the steps that these spell
  abbrev pub RunIsOfSteps : Type 0
  RunIsOfSteps = (n : ℕ) (s : State) (bytes : List ℕ) (ended : Bool) (steps : List Step)
      (rest : List ℕ) (fault : Option FrameFault) → AreBytes bytes
      → SpellsFrom n bytes ended steps rest fault
      → run_of looked (step_at answers) n s bytes ended
      ≡ come_to (answers_to answers n s steps) (state_past answers n s steps) (n + length steps) fault

  -- some bytes begin with some frames; they are those of steps, which have this result
  pub record PrefixIsOfSteps (n m : ℕ) (s t : State) (bytes : List ℕ) (ended : Bool)
      (served followed : List (List ℕ)) (text : List ℕ) : Type 0 where
    pub steps : List Step
    pub rest : List ℕ
    pub frames : AreFramesOf bytes steps rest
    pub served_are : served ≡ map frame_of steps
    pub number : m ≡ n + length steps
    pub few : m ≤ 65536
    pub others : looked m rest ended ≡ followed
    pub text_is : text ≡ answers_to answers n s steps
    pub state_is : t ≡ state_past answers n s steps

  -- items at the beginning of what is read that were not refused are the frames of steps
  abbrev pub ServedAreSteps : Type 0
  ServedAreSteps = (n m : ℕ) (s t : State) (bytes : List ℕ) (ended : Bool)
      (served followed : List (List ℕ)) (text : List ℕ) → n ≤ 65536 → AreBytes bytes
      → looked n bytes ended ≡ served ++ followed
      → run_items (step_at answers) n s served ≡ come_to text t m None
      → PrefixIsOfSteps n m s t bytes ended served followed text
