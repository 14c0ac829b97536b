-- A start in a closed slot.
use Rattle.std.proofs.Common.{◌≡◌, ℕ, Bool, ◌&&◌, inl, inr, IsTrue, List, Option, Some, Result, Ok, Err, refl, sym, ap, ◌∙◌, subst}
use Rattle.pam_base.specs.declared.code.Code.{Code}
use Rattle.pam_base.specs.declared.code.Code.TheVariants as codes
use Rattle.pam_base.specs.declared.call.AppCall.TheVariants as calls
use Rattle.pam_base.specs.declared.fault.NoMemory.{NoMemory}
use Rattle.pam_base.specs.declared.fault.Refuse.{Refuse}
use Rattle.pam_base.specs.declared.fault.Refuse.TheVariants as refusals
use Rattle.conv_port.specs.Conv.{ConvState}
use Rattle.pam_handle.specs.service_load.specs.declared.load_fault.LoadFault.{LoadFault}
use Rattle.pam_handle.specs.dispatch_core.specs.Lines.{names_of}
use Rattle.pam_handle.specs.pam_room.specs.Module.{Player}
use Rattle.pam_handle.specs.pam_room.specs.State.{PlainWorld, PlainProcess}
use Rattle.pam_handle.specs.Handle.{PlainHandle}
use Rattle.pam_handle.specs.Items.{missing_from}
use Rattle.pam_handle.specs.Start.{Opens, Refuses, Started, new_handle, started}
use Rattle.pam_library.specs.declared.outcome.Answer.{Answer}
use Rattle.pam_library.specs.declared.outcome.Answer.TheVariants as answers
use Rattle.pam_library.specs.declared.outcome.Outcome.{Outcome}
use Rattle.pam_library.specs.Outcome.{plain_outcome, answers_only}
use Rattle.pam_library.specs.Slots.{PlainSlot, closed, opened, data_in}
use Rattle.pam_library.specs.SlotStep.{filed_in, opened_by}
use Rattle.pam_library.specs.Sound.{IsAtPlace}
use Rattle.pam_library.specs.AnyWorld.{is_refused}
use Rattle.pam_library.specs.InPlace.{CalledInSlot, IsOpened, IsRefused, OpensPlace}
use Rattle.pam_library.proofs.StackCallFacts.{answer_of, filed_of}
use Rattle.pam_library.proofs.SeenSlot.{slot_seen}

refused_is : (answer : Answer) (fault : LoadFault) → answer ≡ answers.Refused fault → IsTrue (is_refused answer)
refused_is answer fault is = subst (λ (a : Answer). IsTrue (is_refused a)) (sym is) refl

module _ (players : List Player) (gives : (Code → ℕ → ℕ) → Type 0) (tells world_tells : Bool) (faults : ℕ) (number : ℕ) where
  -- the same start, of a service and a user written in another form
  pub start_of : (service given : List ℕ) (user known : Option (List ℕ)) (old : PlainSlot) (w : PlainWorld) (result : Result Outcome NoMemory) (new : PlainSlot) (v : PlainWorld)
      → given ≡ service → known ≡ user → CalledInSlot number (calls.Start given known) (slot_seen players gives tells world_tells faults old w) result new v
      → CalledInSlot number (calls.Start service user) (slot_seen players gives tells world_tells faults old w) result new v
  start_of service given user known old w result new v same also goes =
      subst (λ (u : Option (List ℕ)). CalledInSlot number (calls.Start service u) (slot_seen players gives tells world_tells faults old w) result new v) also
      (subst (λ (s : List ℕ). CalledInSlot number (calls.Start s known) (slot_seen players gives tells world_tells faults old w) result new v) same goes)

  module _ (service : List ℕ) (user : Option (List ℕ)) (conv : ConvState) (w v : PlainWorld) (process : v.process ≡ w.process) where
    abbrev of_start : Started
    of_start = started number service user conv (names_of players) w

    module _ (h : PlainHandle) (fresh : h ≡ new_handle number service user conv (names_of players) h.stacks) (opens : IsTrue (tells && world_tells) → Opens of_start h v) where
      names_are : h.names ≡ names_of players
      names_are = ap (λ (k : PlainHandle). k.names) fresh

      at_place : (slot : PlainSlot) → slot ≡ opened h → IsAtPlace (names_of players) number slot
      at_place slot is = subst (IsAtPlace (names_of players) number) (sym is) (record { handle = ap (λ (k : PlainHandle). k.room.transaction.handle) fresh; started_with = names_are })

      step_opens : (o : Outcome) (slot : PlainSlot) → OpensPlace (filed_in w) h o slot → Opens of_start h v
          → plain_outcome o ≡ (opened_by (names_of players) conv (filed_in w) of_start.world of_start.answer).outcome
      step_opens o slot is s =
          is.outcome_is
          ∙ ap (λ (n : List (List ℕ)). record (answers_only (filed_in w) (answers.Code codes.Success)) { missing = missing_from n h.stacks }) names_are
          ∙ ap (λ (a : Result PlainHandle LoadFault). (opened_by (names_of players) conv (filed_in w) of_start.world a).outcome) (sym s.handle_is)

      opens_at : (result : Result Outcome NoMemory) (slot : PlainSlot) → IsOpened (filed_in w) h result slot
          → CalledInSlot number (calls.Start service user) (slot_seen players gives tells world_tells faults (closed conv) w) result slot v
      opens_at (Ok o) slot is = record {
        told = λ number_of given all.
            let s : Opens of_start h v = opens all in
            record {
              outcome_is = step_opens o slot is s;
              slot_is = is.slot_is ∙ ap (λ (a : Result PlainHandle LoadFault). (opened_by (names_of players) conv (filed_in w) of_start.world a).slot) (sym s.handle_is);
              world_is = s.world_is ∙ ap (λ (a : Result PlainHandle LoadFault). (opened_by (names_of players) conv (filed_in w) of_start.world a).world) (sym s.handle_is);
            };
        alone = λ number_of inside. absurd (cc);
        answers = inl (answer_of o _ is.outcome_is);
        traces = tt;
        filed_from = filed_of o _ is.outcome_is;
        succeeds = λ free. refl;
        fails = tt;
        stops = tt;
        placed = at_place slot is.slot_is;
        spends = record {
          ledger = ap (λ (p : PlainProcess). p.ledger) process;
          list = ap (λ (s : PlainSlot). data_in number (Some s)) is.slot_is ∙ ap (λ (k : PlainHandle). k.room.transaction.datums) fresh;
        };
        root = ap (λ (p : PlainProcess). p.root) process;
        caller = ap (λ (p : PlainProcess). p.caller) process;
      }
      opens_at (Err e) slot is =
          let same : slot ≡ closed conv = is ∙ ap (λ (k : PlainHandle). closed k.room.conv) fresh in
          record {
            told = λ number_of given all. tt;
            alone = λ number_of inside. tt;
            answers = tt;
            traces = tt;
            filed_from = tt;
            succeeds = λ free. absurd (cc);
            fails = same;
            stops = tt;
            placed = subst (IsAtPlace (names_of players) number) (sym same) tt;
            spends = record { ledger = ap (λ (p : PlainProcess). p.ledger) process; list = ap (λ (s : PlainSlot). data_in number (Some s)) same };
            root = ap (λ (p : PlainProcess). p.root) process;
            caller = ap (λ (p : PlainProcess). p.caller) process;
          }

      pub start_opens : (result : Result Outcome NoMemory) (slot : PlainSlot) (n : ℕ) → n ≡ filed_in w → IsOpened n h result slot
          → CalledInSlot number (calls.Start service user) (slot_seen players gives tells world_tells faults (closed conv) w) result slot v
      start_opens result slot n same is = opens_at result slot (subst (λ (k : ℕ). IsOpened k h result slot) same is)

    refuses_at : (why : Refuse LoadFault) (result : Result Outcome NoMemory) (slot : PlainSlot) → (IsTrue (tells && world_tells) → Refuses of_start why v)
        → IsRefused (filed_in w) why result → slot ≡ closed conv
        → CalledInSlot number (calls.Start service user) (slot_seen players gives tells world_tells faults (closed conv) w) result slot v
    refuses_at (refusals.Named fault) (Ok o) slot refuses is same = record {
      told = λ number_of given all.
          let s = refuses all in
          record {
            outcome_is = is ∙ ap (λ (a : Result PlainHandle LoadFault). (opened_by (names_of players) conv (filed_in w) of_start.world a).outcome) (sym s.0);
            slot_is = same ∙ ap (λ (a : Result PlainHandle LoadFault). (opened_by (names_of players) conv (filed_in w) of_start.world a).slot) (sym s.0);
            world_is = s.1 ∙ ap (λ (a : Result PlainHandle LoadFault). (opened_by (names_of players) conv (filed_in w) of_start.world a).world) (sym s.0);
          };
      alone = λ number_of inside. absurd (cc);
      answers = inr (refused_is o.answer fault (answer_of o _ is));
      traces = tt;
      filed_from = filed_of o _ is;
      succeeds = λ free. refl;
      fails = tt;
      stops = tt;
      placed = subst (IsAtPlace (names_of players) number) (sym same) tt;
      spends = record { ledger = ap (λ (p : PlainProcess). p.ledger) process; list = ap (λ (s : PlainSlot). data_in number (Some s)) same };
      root = ap (λ (p : PlainProcess). p.root) process;
      caller = ap (λ (p : PlainProcess). p.caller) process;
    }
    refuses_at (refusals.Named fault) (Err e) slot refuses is same = absurd is
    refuses_at refusals.NoMemory (Ok o) slot refuses is same = absurd is
    refuses_at refusals.NoMemory (Err e) slot refuses is same = record {
      told = λ number_of given all. tt;
      alone = λ number_of inside. tt;
      answers = tt;
      traces = tt;
      filed_from = tt;
      succeeds = λ free. absurd (cc);
      fails = same;
      stops = tt;
      placed = subst (IsAtPlace (names_of players) number) (sym same) tt;
      spends = record { ledger = ap (λ (p : PlainProcess). p.ledger) process; list = ap (λ (s : PlainSlot). data_in number (Some s)) same };
      root = ap (λ (p : PlainProcess). p.root) process;
      caller = ap (λ (p : PlainProcess). p.caller) process;
    }

    pub start_refuses : (why : Refuse LoadFault) (result : Result Outcome NoMemory) (slot : PlainSlot) (n : ℕ) → n ≡ filed_in w
        → (IsTrue (tells && world_tells) → Refuses of_start why v)
        → IsRefused n why result → slot ≡ closed conv
        → CalledInSlot number (calls.Start service user) (slot_seen players gives tells world_tells faults (closed conv) w) result slot v
    start_refuses why result slot n same refuses is at = refuses_at why result slot refuses (subst (λ (k : ℕ). IsRefused k why result) same is) at
