-- One call in one slot (the calls of the Application Developers' Guide; that a call may be incomplete, the delay
-- function and the replies are this project's own).
use Rattle.std.specs.Prelude.{◌≡◌, ℕ, if◌then◌else◌, List, [], ◌∷◌, ◌++◌, map, length, Option, Some, None, Result, Ok, Err}
use Rattle.pam_base.specs.declared.code.Code.{Code}
use Rattle.pam_base.specs.declared.code.Code.TheVariants as codes
use Rattle.pam_base.specs.declared.call.Func.{Func}
use Rattle.pam_base.specs.declared.call.AppCall.{AppCall}
use Rattle.pam_base.specs.declared.call.AppCall.TheVariants as calls
use Rattle.data_cleanup.specs.Cleanup.{Notes}
use Rattle.pam_handle.specs.item_store.specs.Items.{text_of, with_text}
use Rattle.pam_handle.specs.item_store.specs.Access.{is_refused as is_refused_item}
use Rattle.pam_handle.specs.item_store.specs.declared.access.Access.TheVariants.{ApplicationSets, ApplicationGets}
use Rattle.pam_handle.specs.env_list.specs.Environment.{is_refused as is_refused_text, after_put, value_of, variable_text}
use Rattle.conv_port.specs.Conv.{ConvState, offer_taken}
use Rattle.pam_handle.specs.service_load.specs.declared.load_fault.LoadFault.{LoadFault}
use Rattle.pam_handle.specs.pam_room.specs.Module.{Player, notes_of}
use Rattle.pam_handle.specs.pam_room.specs.State.{PlainWorld}
use Rattle.pam_handle.specs.dispatch_core.specs.Lines.{names_of}
use Rattle.pam_handle.specs.dispatch_core.specs.Pending.{Pending, same_func}
use Rattle.pam_handle.specs.Handle.{PlainHandle}
use Rattle.pam_handle.specs.Call.{Called}
pub use Rattle.pam_handle.specs.StackCalls.{is_refused_for_flags}
use Rattle.pam_handle.specs.StackCalls.{stack_call}
use Rattle.pam_handle.specs.Items.{with_items, with_environment, with_request, with_delay_function, with_conversation, all_told, missing_from}
use Rattle.pam_handle.specs.Start.{started}
use Rattle.pam_handle.specs.End.{world_after_end}
use Rattle.pam_library.specs.declared.outcome.Answer.{Answer}
use Rattle.pam_library.specs.declared.outcome.Answer.TheVariants as answers
use Rattle.pam_library.specs.Outcome.{PlainOutcome, answers_only}
use Rattle.pam_library.specs.Slots.{PlainSlot, closed, opened}
use Rattle.pam_library.specs.StackOf.{stack_of}

-- a slot, the world and what the step reported and returned
pub record SlotStepped : Type 0 where
  pub slot : PlainSlot
  pub world : PlainWorld
  pub outcome : PlainOutcome

-- an outcome, a slot and a world are those of a step
pub record SlotStepsAs (s : SlotStepped) (outcome : PlainOutcome) (slot : PlainSlot)
    (world : PlainWorld) : Type 0 where
  pub outcome_is : outcome ≡ s.outcome
  pub slot_is : slot ≡ s.slot
  pub world_is : world ≡ s.world

abbrev pub filed_in : PlainWorld → ℕ
filed_in w = length w.process.ledger.filed

-- a result only; the world stays
abbrev pub answered : PlainSlot → PlainWorld → Answer → SlotStepped
answered slot w answer = record {
  slot = slot;
  world = w;
  outcome = answers_only (filed_in w) answer;
}

abbrev pub succeeded : PlainSlot → PlainWorld → SlotStepped
succeeded slot w = answered slot w (answers.Code codes.Success)

-- a transaction ends, and its conversation stays in its slot
abbrev pub ended : Notes → ℕ → PlainHandle → PlainWorld → SlotStepped
ended note status h w = record {
  slot = closed h.room.conv;
  world = world_after_end note status h w;
  outcome = answers_only (filed_in w) (answers.Code codes.Success);
}

-- a reply is offered to the conversation, whether its slot is open or not
abbrev pub offered : List ℕ → ConvState → ConvState
offered text conv = record conv { offers = conv.offers ++ offer_taken conv.waits text ∷ [] }

-- ---- a start

abbrev pub opened_by : List (List ℕ) → ConvState → ℕ → PlainWorld → Result PlainHandle LoadFault
    → SlotStepped
opened_by names conv filed w (Ok h) =
    record {
      slot = opened h;
      world = w;
      outcome = record (answers_only filed (answers.Code codes.Success))
          { missing = missing_from names h.stacks };
    }
opened_by names conv filed w (Err fault) =
    record { slot = closed conv; world = w; outcome = answers_only filed (answers.Refused fault) }

-- ---- the stack calls

-- what the transaction has to report is taken
abbrev pub told_by : ℕ → Answer → Called → SlotStepped
told_by filed answer c = record {
  slot = opened (all_told c.handle);
  world = c.world;
  outcome = record {
    said = c.handle.room.transaction.said;
    trail = c.handle.room.transaction.trail;
    filed_from = filed;
    wait = c.handle.waited;
    missing = [];
    answer = answer;
  };
}

-- another call that is pending
abbrev pub other_pending : Option Pending → Func → Option Func
other_pending None func = None
other_pending (Some p) func = if same_func p.func func then None else Some p.func

abbrev pub unless_pending : Option Func → PlainSlot → PlainWorld → SlotStepped → SlotStepped
unless_pending None slot w stepped = stepped
unless_pending (Some func) slot w stepped = answered slot w (answers.Pending func)

module _ (players : List Player) (number : Code → ℕ → ℕ) where
  abbrev pub stack_step : Func → ℕ → PlainHandle → PlainWorld → SlotStepped
  stack_step func flags h w =
      if is_refused_for_flags func flags then answered (opened h) w (answers.Code codes.SystemErr)
      else unless_pending (other_pending h.pending func) (opened h) w
      (let c = stack_call players number func flags h w in
      told_by (filed_in w) (answers.Code c.code) c)

  -- ---- the calls on an open transaction without anything to report

  abbrev pub open_step_by : Option (Func × ℕ) → PlainHandle → PlainWorld → AppCall → SlotStepped
  open_step_by (Some stack) h w call = stack_step stack.0 stack.1 h w
  open_step_by None h w (calls.Start service user) = answered (opened h) w answers.AlreadyOpen
  open_step_by None h w (calls.End status) = ended (notes_of players) status h w
  open_step_by None h w (calls.SetItem item value) =
      if is_refused_item ApplicationSets item
      then answered (opened h) w (answers.Code codes.BadItem)
      else succeeded (opened (with_items (with_text h.room.transaction.items item value) h)) w
  open_step_by None h w (calls.GetItem item) =
      if is_refused_item ApplicationGets item
      then answered (opened h) w (answers.Code codes.BadItem)
      else answered (opened h) w (answers.Value (text_of h.room.transaction.items item))
  open_step_by None h w (calls.PutEnv text) =
      if is_refused_text text h.room.transaction.env
      then answered (opened h) w (answers.Code codes.BadItem)
      else succeeded (opened (with_environment (after_put text h.room.transaction.env) h)) w
  open_step_by None h w (calls.GetEnv name) =
      answered (opened h) w (answers.Value (value_of name h.room.transaction.env))
  open_step_by None h w calls.EnvList =
      answered (opened h) w (answers.List (map variable_text h.room.transaction.env))
  open_step_by None h w (calls.FailDelay micros) = succeeded (opened (with_request micros h)) w
  open_step_by None h w (calls.DelayFn on) = succeeded (opened (with_delay_function on h)) w
  open_step_by None h w (calls.Reply text) =
      answered (opened (with_conversation (offered text h.room.conv) h)) w answers.Nothing
  -- (a stack call is none of these)
  open_step_by None h w call = answered (opened h) w answers.Nothing

  abbrev pub open_step : PlainHandle → PlainWorld → AppCall → SlotStepped
  open_step h w call = open_step_by (stack_of call) h w call

  -- ---- the calls in a closed slot

  abbrev pub closed_step : ℕ → ConvState → PlainWorld → AppCall → SlotStepped
  closed_step place conv w (calls.Start service user) =
      let s = started place service user conv (names_of players) w in
      opened_by (names_of players) conv (filed_in w) s.world s.answer
  closed_step place conv w (calls.Reply text) =
      answered (closed (offered text conv)) w answers.Nothing
  closed_step place conv w call = answered (closed conv) w answers.NotOpen

  -- a call in the slot of this number; the record of an open transaction from before the step
  -- counts as taken
  abbrev pub slot_step : ℕ → PlainSlot → PlainWorld → AppCall → SlotStepped
  slot_step place (closed conv) w call = closed_step place conv w call
  slot_step place (opened h) w call = open_step (all_told h) w call
