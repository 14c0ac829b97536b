-- The stacks of open transactions along a run.
use Rattle.std.proofs.Common.{◌≡◌, ℕ, zero, suc, ◌+◌, Bool, true, false, nat_le, nat_lt, if◌then◌else◌, List, [], ◌∷◌, length, Option, Some}
use Rattle.std.proofs.Common.{None, Result, Ok, Err, slice_set, refl, ◌∙◌}
use Rattle.pam_base.specs.declared.call.Func.{Func}
use Rattle.pam_base.specs.declared.call.Func.TheVariants as funcs
use Rattle.pam_base.specs.declared.call.AppCall.{AppCall}
use Rattle.pam_base.specs.declared.call.AppCall.TheVariants as calls
use Rattle.pam_base.specs.declared.call.Step.{Step as Asked}
use Rattle.pam_base.specs.declared.fault.ScriptKind.{ScriptKind}
use Rattle.item_store.specs.Access.{is_refused as is_refused_item}
use Rattle.item_store.specs.declared.access.Access.TheVariants.{ApplicationSets, ApplicationGets}
use Rattle.env_list.specs.Environment.{is_refused as is_refused_text}
use Rattle.conv_port.specs.Conv.{ConvState}
use Rattle.service_load.specs.FirstFault.{Counts, Stop}
use Rattle.service_load.specs.Load.{loaded}
use Rattle.script_lang.specs.declared.line.Line.{Line}
use Rattle.script_lang.specs.declared.line.Line.TheVariants as lines
use Rattle.script_lang.specs.Line.{parsed}
use Rattle.record_reader.specs.LineRun.{step_at}
use Rattle.dispatch_core.specs.Lines.{names_of}
use Rattle.pam_room.specs.State.{PlainWorld}
use Rattle.service_load.specs.Stacks.{Stacks}
use Rattle.pam_handle.specs.Handle.{PlainHandle}
use Rattle.pam_handle.specs.Items.{all_told}
use Rattle.pam_handle.specs.Start.{started_by, new_handle, stacks_under}
use Rattle.pam_handle.specs.StackCalls.{stack_call}
use Rattle.pam_library.specs.Slots.{PlainSlot, closed, opened, slot_at, with_slot}
use Rattle.pam_library.specs.SlotStep.{SlotStepped, filed_in, is_refused_for_flags, other_pending, unless_pending, stack_step, open_step}
use Rattle.pam_library.specs.SlotStep.{closed_step, slot_step, opened_by}
use Rattle.pam_library.specs.Step.{stepped_at, stepped}
use Rattle.cmd_run.specs.State.{RunState, Setting, kept_at}
use Rattle.cmd_run.specs.Step.{applied_or_refused, line_step}
use Rattle.laws_audit.specs.Calls.{GoesAs}
use Rattle.laws_audit.specs.Step.{HasStacks, HaveStacks}
use Rattle.laws_audit.specs.Run.{OnState, StartFinds, AskedFinds, StartsFind, HaveAlong}
use Rattle.laws_audit.proofs.LibraryCallFacts.{library_calls_go}
use Rattle.laws_audit.proofs.LibraryStepFacts.{have_in, not_other}

module _ (setting : Setting) (stacks : Stacks) where
  abbrev Has : SlotStepped → Type 0
  Has s = HasStacks stacks s.slot

  has_if : (b : Bool) (s t : SlotStepped) → (b ≡ true → Has s) → (b ≡ false → Has t) → Has (if b then s else t)
  has_if true s t first second = first refl
  has_if false s t first second = second refl

  has_unless : (found : Option Func) (h : PlainHandle) (w : PlainWorld) (s : SlotStepped) → h.stacks ≡ stacks → (found ≡ None → Has s)
      → Has (unless_pending found (opened h) w s)
  has_unless None h w s have there = there refl
  has_unless (Some func) h w s have there = have

  stack_has : (func : Func) (flags : ℕ) (h : PlainHandle) (w : PlainWorld) → h.stacks ≡ stacks → Has (stack_step setting.players setting.delay func flags h w)
  stack_has func flags h w have =
      has_if (is_refused_for_flags func flags) _ _ (λ flagged. have)
      (λ flagged. has_unless (other_pending h.pending func) h w _ have
      (λ alone.
      let g : GoesAs setting.players func flags _ _ h (stack_call setting.players setting.delay func flags h w) =
      library_calls_go setting.players setting.delay func flags h w flagged (not_other stacks h.pending func alone) in
      g.stacks ∙ have))

  open_has : (call : AppCall) (h : PlainHandle) (w : PlainWorld) → h.stacks ≡ stacks → Has (open_step setting.players setting.delay h w call)
  open_has (calls.Start service user) h w have = have
  open_has (calls.End status) h w have = tt
  open_has (calls.Authenticate flags) h w have = stack_has funcs.Authenticate flags h w have
  open_has (calls.SetCred flags) h w have = stack_has funcs.SetCred flags h w have
  open_has (calls.AcctMgmt flags) h w have = stack_has funcs.AcctMgmt flags h w have
  open_has (calls.OpenSession flags) h w have = stack_has funcs.OpenSession flags h w have
  open_has (calls.CloseSession flags) h w have = stack_has funcs.CloseSession flags h w have
  open_has (calls.ChAuthTok flags) h w have = stack_has funcs.ChAuthTok flags h w have
  open_has (calls.SetItem item value) h w have = has_if (is_refused_item ApplicationSets item) _ _ (λ e. have) (λ e. have)
  open_has (calls.GetItem item) h w have = has_if (is_refused_item ApplicationGets item) _ _ (λ e. have) (λ e. have)
  open_has (calls.PutEnv text) h w have = has_if (is_refused_text text h.room.transaction.env) _ _ (λ e. have) (λ e. have)
  open_has (calls.GetEnv name) h w have = have
  open_has calls.EnvList h w have = have
  open_has (calls.FailDelay micros) h w have = have
  open_has (calls.DelayFn on) h w have = have
  open_has (calls.Reply text) h w have = have

  start_has : (number : ℕ) (service : List ℕ) (user : Option (List ℕ)) (conv : ConvState) (w : PlainWorld) (found : Result Counts Stop)
      → (let names = names_of setting.players in
      let under = stacks_under w.vault w.process.root service in
      let s = started_by (new_handle number service user conv names) found under w in
      let o = opened_by names conv (filed_in w) s.world s.answer in
      StartFinds setting stacks w (calls.Start service user) o.outcome.answer → Has o)
  start_has number service user conv w (Ok counts) finds = finds
  start_has number service user conv w (Err stop) finds = tt

  closed_has : (call : AppCall) (place : ℕ) (conv : ConvState) (w : PlainWorld)
      → StartFinds setting stacks w call (closed_step setting.players setting.delay place conv w call).outcome.answer
      → Has (closed_step setting.players setting.delay place conv w call)
  closed_has (calls.Start service user) place conv w finds = start_has place service user conv w (loaded w.vault w.process.root service) finds
  closed_has (calls.End status) place conv w finds = tt
  closed_has (calls.Authenticate flags) place conv w finds = tt
  closed_has (calls.SetCred flags) place conv w finds = tt
  closed_has (calls.AcctMgmt flags) place conv w finds = tt
  closed_has (calls.OpenSession flags) place conv w finds = tt
  closed_has (calls.CloseSession flags) place conv w finds = tt
  closed_has (calls.ChAuthTok flags) place conv w finds = tt
  closed_has (calls.SetItem item value) place conv w finds = tt
  closed_has (calls.GetItem item) place conv w finds = tt
  closed_has (calls.PutEnv text) place conv w finds = tt
  closed_has (calls.GetEnv name) place conv w finds = tt
  closed_has calls.EnvList place conv w finds = tt
  closed_has (calls.FailDelay micros) place conv w finds = tt
  closed_has (calls.DelayFn on) place conv w finds = tt
  closed_has (calls.Reply text) place conv w finds = tt

  slot_has : (call : AppCall) (place : ℕ) (slot : PlainSlot) (w : PlainWorld) → HasStacks stacks slot
      → StartFinds setting stacks w call (slot_step setting.players setting.delay place slot w call).outcome.answer
      → Has (slot_step setting.players setting.delay place slot w call)
  slot_has call place (closed conv) w have finds = closed_has call place conv w finds
  slot_has call place (opened h) w have finds = open_has call (all_told h) w have

  have_set : (slots : List PlainSlot) (i : ℕ) (slot : PlainSlot) → HaveStacks stacks slots → HasStacks stacks slot → HaveStacks stacks (slice_set slots i slot)
  have_set [] i slot all has = tt
  have_set (x ∷ slots) zero slot all has = (has, all.1)
  have_set (x ∷ slots) (suc i) slot all has = (all.0, have_set slots i slot all.1 has)

  have_with : (slots : List PlainSlot) (number : ℕ) (slot : PlainSlot) → HaveStacks stacks slots → HasStacks stacks slot
      → HaveStacks stacks (with_slot slots number slot)
  have_with slots zero slot all has = all
  have_with slots (suc i) slot all has = have_set slots i slot all has

  found_have : (slots : List PlainSlot) (w : PlainWorld) (step : Asked) (found : Option PlainSlot) → slot_at slots step.number ≡ found → HaveStacks stacks slots
      → StartFinds setting stacks w step.call (stepped_at setting.players setting.delay slots w step.number step.call found).outcome.answer
      → HaveStacks stacks (stepped_at setting.players setting.delay slots w step.number step.call found).slots
  found_have slots w step None there have finds = have
  found_have slots w step (Some slot) there have finds =
      have_with slots step.number _ have (slot_has step.call step.number slot w
      (have_in setting.players setting.delay stacks slots step.number slot have there) finds)

  step_has : (slots : List PlainSlot) (w : PlainWorld) (step : Asked) → HaveStacks stacks slots
      → StartFinds setting stacks w step.call (stepped setting.players setting.delay slots w step).outcome.answer
      → HaveStacks stacks (stepped setting.players setting.delay slots w step).slots
  unfolding stepped
  step_has slots w step have finds = found_have slots w step (slot_at slots step.number) refl have finds

  -- ---- lines

  abbrev OnHave : Result (RunState × List ℕ) ScriptKind → Type 0
  OnHave x = OnState setting x (λ t. HaveStacks stacks t.slots)

  asked_has : (s : RunState) (read : Result Line ScriptKind) → HaveStacks stacks s.slots → AskedFinds setting stacks s read
      → OnHave (applied_or_refused setting s read)
  asked_has s (Ok lines.Blank) have finds = have
  asked_has s (Ok (lines.Step step)) have finds = step_has s.slots s.world step have finds
  asked_has s (Ok (lines.At moment)) have finds = have
  asked_has s (Ok (lines.Random word)) have finds = have
  asked_has s (Ok (lines.Caller caller)) have finds = have
  asked_has s (Err kind) have finds = tt

  on_if : (b : Bool) (kind : ScriptKind) (r : Result (RunState × List ℕ) ScriptKind) → OnHave r → OnHave (if b then Err kind else r)
  on_if true kind r there = tt
  on_if false kind r there = there

  line_has : (n : ℕ) (s : RunState) (line : List ℕ) → HaveStacks stacks s.slots → AskedFinds setting stacks (kept_at setting n s) (parsed line)
      → OnHave (step_at (line_step setting) n s line)
  unfolding step_at line_step
  line_has n s line have finds = on_if (nat_le 65536 n) _ _ (on_if (nat_lt 513 (length line)) _ _ (asked_has (kept_at setting n s) (parsed line) have finds))

  on_each : (x : Result (RunState × List ℕ) ScriptKind) (Find : Type 0) (Starts Along : RunState → Type 0) → (Find → OnHave x)
      → ((t : RunState) → HaveStacks stacks t.slots → Starts t → Along t)
      → OnState setting x (λ t. Find × Starts t) → OnState setting x (λ t. HaveStacks stacks t.slots × Along t)
  on_each (Ok x) Find Starts Along here each finds = let have : HaveStacks stacks x.0.slots = here finds.0 in (have, each x.0 have finds.1)
  on_each (Err kind) Find Starts Along here each finds = tt

  pub starts_have : (n : ℕ) (s : RunState) (ls : List (List ℕ)) → HaveStacks stacks s.slots → StartsFind setting stacks n s ls → HaveAlong setting stacks n s ls
  starts_have n s [] have finds = tt
  starts_have n s (l ∷ ls) have finds =
      on_each (step_at (line_step setting) n s l) (AskedFinds setting stacks (kept_at setting n s) (parsed l)) _ (λ t. HaveAlong setting stacks (n + 1) t ls) (line_has n s l have)
      (λ t have' finds'. starts_have (n + 1) t ls have' finds') finds
