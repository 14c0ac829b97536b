-- A pass that ran out of memory: how far it had got, and what was done by then (this project's own).
use Rattle.std.specs.Prelude.{◌≡◌, ◌⊎◌, ℕ, ◌+◌, ◌-◌, Bool, true, false, IsTrue, List, [], ◌∷◌, ◌++◌, length, Option, Some, None}
use Rattle.pam_base.specs.declared.code.Code.{Code}
use Rattle.pam_base.specs.declared.code.Code.TheVariants as codes
use Rattle.pam_base.specs.declared.call.Func.{Func}
use Rattle.control_words.specs.declared.nodes.Rule.{Rule}
use Rattle.control_words.specs.Stack.{Stack}
use Rattle.handler_chain.specs.FlatLines.{module_of, rule_at}
use Rattle.pam_room.specs.declared.visits.Visit.{Visit as Visited}
use Rattle.pam_room.specs.Module.{Player, notes_of}
use Rattle.pam_room.specs.Serve.{LineBreaks}
use Rattle.pam_room.specs.State.{PlainTransaction, State}
use Rattle.handler_chain.specs.declared.opinion.Opinion.{Opinion}
use Rattle.handler_chain.specs.declared.pass_kind.PassKind.{PassKind}
use Rattle.handler_chain.specs.Route.{KeptAnswers}
use Rattle.handler_chain.specs.Walk.{halted}
use Rattle.handler_chain.specs.Pass.{Answering, AnswersAs, Visit, answers_of, is_incomplete, pass_after, pass_state, serving, visit}
use Rattle.handler_chain.specs.Retell.{RecordedLine, replaying, telling}
use Rattle.dispatch_core.specs.AnyWorld.{GoesSoundly}
use Rattle.dispatch_core.specs.Around.{Around}
use Rattle.dispatch_core.specs.declared.walker.Walker.{Walker}
use Rattle.dispatch_core.specs.Index.{walk_on}
use Rattle.dispatch_core.specs.Lines.{answers_by, call_of, names_of}
use Rattle.dispatch_core.specs.Trail.{seen_of}

-- a line that isn't run: it leaves the pass incomplete at that line, whose rule number is recorded
abbrev pub unasked : Answering (Option ℕ)
unasked rule place noted = record { answer = codes.Incomplete; state = Some place }

-- the lines run in a trace, as those of a walk
abbrev pub visits_in : List Visited → List Visit
visits_in [] = []
visits_in (v ∷ vs) = visit v.place v.answer ∷ visits_in vs

-- the line of an index, as run
abbrev pub visited_at : Stack → ℕ → Code → Visited
visited_at stack i answer = record {
  place = i + 1;
  path = (rule_at stack i).path;
  answer = answer;
}

-- the module of a rule was at work, and its line isn't recorded as run
abbrev pub IsAtWork : List Player → Rule → PlainTransaction → PlainTransaction → Type 0
IsAtWork players rule old new = (module_of (names_of players) rule ≡ Some new.serving)
    × (new.trail ≡ old.trail)

-- Where a walker goes with the code of its line, whatever comes after it: in a pass that is given the code, and in one
-- that replays a trace, whose next code or next line it is.
pub record GoesBy (kind : PassKind) (kept : KeptAnswers) (stack : Stack) (code : Code)
    (old new : Walker) : Type 0 where
  pub given : (rest : List Code) (visits : List Visit)
      → walk_on kind (serving kind kept unasked) stack old (pass_state (code ∷ rest) visits None)
      ≡ walk_on kind (serving kind kept unasked) stack new
      (pass_state rest (visits ++ visit (old.at + 1) code ∷ []) None)
  pub again : (rest : List Code) (visits : List Visit) (left : List RecordedLine)
      → walk_on kind (serving kind kept replaying) stack old
      (pass_state (code ∷ rest) visits (telling left))
      ≡ walk_on kind (serving kind kept replaying) stack new
      (pass_state rest (visits ++ visit (old.at + 1) code ∷ []) (telling left))
  pub told : is_incomplete code ≡ false → (visits : List Visit) (left : List RecordedLine)
      → walk_on kind (serving kind kept replaying) stack old
      (pass_state [] visits (telling (seen_of (visited_at stack old.at code) ∷ left)))
      ≡ walk_on kind (serving kind kept replaying) stack new
      (pass_state [] (visits ++ visit (old.at + 1) code ∷ []) (telling left))

module _ (players : List Player) (func : Func) (flags : ℕ) (stack : Stack) where
  -- lines were run one after another, each of which returned what its module's definition says
  abbrev pub PlayOn : List Visited → State → State → Type 0
  PlayOn [] s t = t ≡ s
  PlayOn (v ∷ vs) s t =
      (u : State)
      × AnswersAs (answers_by players func flags (rule_at stack (v.place - 1)) v.place s) v.answer u
      × PlayOn vs u t

  -- the line of an index was run, after all codes of earlier calls, and left the pass incomplete or not
  pub record IsAsked (tells : Bool) (i : ℕ) (code : Code) (incomplete : Bool)
      (past left : List Code) (s t : State) : Type 0 where
    pub none_before : past ≡ []
    pub none_left : left ≡ []
    pub trail : t.room.transaction.trail
        ≡ s.room.transaction.trail ++ visited_at stack i code ∷ []
    pub goes_on : is_incomplete code ≡ incomplete
    pub told : IsTrue tells →
        AnswersAs (answers_by players func flags (rule_at stack i) (i + 1) s) code t

  -- a line's code is the next of those of earlier calls, and nothing was done; or it was run; without a code it was
  -- run and left the pass incomplete
  abbrev pub Takes : Bool → ℕ → Option Code → List Code → List Code → State → State → Type 0
  Takes tells i None past left s t = IsAsked tells i codes.Incomplete true past left s t
  Takes tells i (Some code) past left s t = ((past ≡ code ∷ left) × (t ≡ s))
      ⊎ IsAsked tells i code false past left s t

  -- the line of an index was run and ran out of memory: what is seen then of the room, and the files, are what its
  -- module may leave
  abbrev pub BreaksAt : ℕ → State → State → Type 0
  BreaksAt i old new =
      LineBreaks players (module_of (names_of players) (rule_at stack i))
      (call_of func flags (rule_at stack i)) old new

  -- Since a state, only this was done: the module of this line ran out of memory, left what it may leave then, and kept
  -- what modules keep. No line was recorded as run, and there was no sleep.
  pub record IsBroken (i : ℕ) (middle end : State) : Type 0 where
    pub left : BreaksAt i middle end
    pub sound : GoesSoundly (notes_of players) (length players) middle.room.transaction
        end.room.transaction middle.world.process end.world.process
    pub trail : end.room.transaction.trail ≡ middle.room.transaction.trail
    pub nap : end.world.nap ≡ middle.world.nap

  -- Where a pass stopped, after the codes of its earlier calls. The lines that it ran are those that its stack leads to
  -- by their codes, one after another, and the next that it leads to is the line of this index, whose module was at
  -- work. If all objects are modelled, each of these lines returned what its module's definition says, and all that was
  -- done since is that module's, which left what it may leave when an allocation fails.
  pub record StopsAt (kind : PassKind) (kept : KeptAnswers) (past : List Code) (tells : Bool)
      (start end : State) : Type 0 where
    pub more : List Visited
    pub trail : end.room.transaction.trail ≡ start.room.transaction.trail ++ more
    pub early : List Visit
    pub resumed : answers_of early ≡ past
    pub index : ℕ
    pub opinion : Opinion
    pub leads : pass_after kind kept unasked stack (past ++ answers_of (visits_in more)) None
        ≡ halted opinion (pass_state [] (early ++ visits_in more) (Some (index + 1)))
    pub at_work : module_of (names_of players) (rule_at stack index)
        ≡ Some end.room.transaction.serving
    pub played : IsTrue tells → (middle : State) × PlayOn more start middle
        × IsBroken index middle end

-- nothing happened at all
pub record IsUntouched (a : Around) : Type 0 where
  pub room : a.new.state.room ≡ a.old.state.room
  pub conv : a.conv_is_kept
  pub world : a.world_is_kept
