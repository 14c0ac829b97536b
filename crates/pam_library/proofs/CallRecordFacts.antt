-- What is known of a call, gathered in the records of its contract.
use Rattle.std.proofs.Common.{◌≡◌, ◌&&◌, ℕ, IfOk, OnErr, List, [], Option, None, Result, Ok, Err, length, refl, sym, ap, subst}
use Rattle.pam_base.specs.declared.call.Step.{Step}
use Rattle.pam_base.specs.declared.fault.NoMemory.{NoMemory}
use Rattle.data_cleanup.specs.Cleanup.{Notes}
use Rattle.data_cleanup.specs.Due.{Event}
use Rattle.data_cleanup.specs.Ledger.{PlainLedger}
use Rattle.data_cleanup.specs.Moves.{Moves}
use Rattle.data_cleanup.specs.Modelled.{Lists}
use Rattle.pam_handle.specs.pam_room.specs.Module.{Player, notes_of}
use Rattle.pam_handle.specs.pam_room.specs.State.{PlainWorld}
use Rattle.pam_library.specs.declared.outcome.Answer.{Answer}
use Rattle.pam_library.specs.declared.outcome.Answer.TheVariants as answers
use Rattle.pam_library.specs.declared.outcome.Outcome.{Outcome}
use Rattle.pam_library.specs.Slots.{PlainSlot, lists_of, slot_at}
use Rattle.pam_library.specs.SlotStep.{filed_in}
use Rattle.pam_library.specs.AnyWorld.{AnswersBy, CountsRefusal, FailsAt, HidesNoFault, SpendsAt, StopsAt, end_at, refusal}
use Rattle.pam_library.specs.Applied.{Answers, Keeps, Leaves, RunsOut}
use Rattle.pam_library.specs.Outcome.{plain_outcome}
use Rattle.pam_library.specs.Seen.{IsSoundIn, SessionSeen, slot_of}
use Rattle.pam_library.specs.Traced.{TracesAt}
use Rattle.pam_library.proofs.StackCallFacts.{answer_of, filed_of}
use Rattle.pam_library.specs.InPlace.{SaysOnly}

abbrev pub NothingMoves : Type 0
NothingMoves = (note : Notes) (limit : ℕ) (before after : PlainLedger) (lists next : Lists) → after ≡ before → ((h : ℕ) → next h ≡ lists h) → Moves note limit [] before lists after next

-- nothing was done
pub keeps_still : (ended : List Event) (s : SessionSeen) → ended ≡ [] → NothingMoves → IsSoundIn s → Keeps ended s s
keeps_still ended s none law sound = record {
  tells = refl;
  world_tells = refl;
  sound = sound;
  moves = subst (λ (e : List Event). Moves (notes_of s.players) 17 e s.world.process.ledger (lists_of s.slots) s.world.process.ledger (lists_of s.slots)) (sym none)
      (law (notes_of s.players) 17 s.world.process.ledger s.world.process.ledger (lists_of s.slots) (lists_of s.slots) refl (λ h. refl));
}

-- there is no such slot
pub none_ends : (slots : List PlainSlot) (step : Step) → slot_at slots step.number ≡ None → end_at (slot_at slots step.number) step.number step.call ≡ []
none_ends slots step none = ap (λ (o : Option PlainSlot). end_at o step.number step.call) none

pub leaves_all : (players : List Player) (step : Step) (slots : List PlainSlot) (w : PlainWorld) → slot_at slots step.number ≡ None → Leaves players step slots slots w w
leaves_all players step slots w none = record {
  others = λ number differs. refl;
  spends = subst (λ (o : Option PlainSlot). SpendsAt (notes_of players) (length players) o step.call (lists_of slots step.number) w.process.ledger (lists_of slots step.number) w.process.ledger) (sym none)
      (record { ledger = refl; list = refl });
  root = refl;
  caller = refl;
}

pub bad_answers : (step : Step) (s : SessionSeen) (o : Outcome) → slot_of step s ≡ None → SaysOnly (filed_in s.world) answers.BadNumber o → Answers step s s o
bad_answers step s o none only = record {
  answer = subst (λ (slot : Option PlainSlot). AnswersBy (refusal slot step.call) step.call o.answer) (sym none) (answer_of o _ only);
  traces = subst (λ (slot : Option PlainSlot). TracesAt step.call slot slot (plain_outcome o)) (sym none) tt;
  filed_from = filed_of o _ only;
  faults = subst (λ (a : Answer). CountsRefusal a s.faults s.faults) (sym (answer_of o _ only)) tt;
}

-- an outcome, or the step ran out of memory
module _ (step : Step) (old new : SessionSeen) where
  pub answers_with : (result : Result Outcome NoMemory)
      → IfOk result (λ o. AnswersBy (refusal (slot_of step old) step.call) step.call o.answer)
      → IfOk result (λ o. TracesAt step.call (slot_of step old) (slot_of step new) (plain_outcome o)) → IfOk result (λ o. o.filed_from ≡ length old.world.process.ledger.filed)
      → IfOk result (λ o. CountsRefusal o.answer old.faults new.faults) → IfOk result (λ o. Answers step old new o)
  answers_with (Ok o) answer traces filed faults = record { answer = answer; traces = traces; filed_from = filed; faults = faults }
  answers_with (Err e) answer traces filed faults = tt

  pub runs_out : {Nap : Type 0} (result : Result Outcome NoMemory) (before after : Nap)
      → OnErr result (FailsAt old.tells step.call (slot_of step old) (slot_of step new))
      → OnErr result (StopsAt old.players (old.tells && old.world_tells) step.call (slot_of step old) (slot_of step new) old.world new.world)
      → OnErr result (after ≡ before) → OnErr result (HidesNoFault step.call old.faults new.faults) → OnErr result (RunsOut step old new before after)
  runs_out (Ok o) before after fails stops no_nap hides = tt
  runs_out (Err e) before after fails stops no_nap hides = record { fails = fails; stops = stops; no_nap = no_nap; hides_none = hides }
