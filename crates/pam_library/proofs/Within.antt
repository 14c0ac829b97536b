-- A call that stays inside an open transaction.
use Rattle.std.proofs.Common.{◌≡◌, ℕ, Bool, true, false, ◌&&◌, if◌then◌else◌, IsTrue, IfOk, OnErr, List, [], length, Option, Some, None, is_some, Result, Ok, Err, refl, sym, ap, ◌∙◌, subst}
use Rattle.pam_base.specs.declared.code.Code.{Code}
use Rattle.pam_base.specs.declared.call.AppCall.{AppCall}
use Rattle.pam_base.specs.declared.call.AppCall.TheVariants as calls
use Rattle.pam_base.specs.declared.fault.NoMemory.{NoMemory}
use Rattle.data_cleanup.specs.DataList.{PlainDataList}
use Rattle.data_cleanup.specs.Ledger.{PlainLedger}
use Rattle.data_cleanup.specs.Cleanup.{Notes}
use Rattle.data_cleanup.specs.Grows.{Grows}
use Rattle.pam_handle.specs.dispatch_core.specs.Lines.{names_of}
use Rattle.pam_handle.specs.pam_room.specs.Module.{Player, notes_of}
use Rattle.pam_handle.specs.pam_room.specs.State.{PlainWorld}
use Rattle.pam_handle.specs.Handle.{PlainHandle}
use Rattle.pam_handle.specs.Items.{all_told}
use Rattle.pam_library.specs.declared.outcome.Answer.{Answer}
use Rattle.pam_library.specs.declared.outcome.Outcome.{Outcome}
use Rattle.pam_library.specs.Outcome.{PlainOutcome, plain_outcome}
use Rattle.pam_library.specs.Slots.{PlainSlot, opened}
use Rattle.pam_library.specs.SlotStep.{SlotStepped, SlotStepsAs, filed_in, open_step, slot_step}
use Rattle.pam_library.specs.AnyWorld.{AnswersBy, CanAnswer, Fails, SpendsAt, StopsOn, is_free, refusal}
use Rattle.pam_library.specs.InPlace.{CalledInSlot, StaysInside}
use Rattle.pam_library.specs.Traced.{TracesIn}
use Rattle.pam_library.proofs.SlotChangeFacts.{NothingGrows}
use Rattle.pam_library.proofs.SeenSlot.{slot_seen}

-- the calls that concern only the transaction itself
abbrev pub is_inside : AppCall → Bool
is_inside (calls.SetItem item value) = true
is_inside (calls.GetItem item) = true
is_inside (calls.PutEnv text) = true
is_inside (calls.GetEnv name) = true
is_inside calls.EnvList = true
is_inside (calls.FailDelay micros) = true
is_inside (calls.DelayFn on) = true
is_inside call = false

no_refusal : (call : AppCall) (h : PlainHandle) → is_inside call ≡ true → refusal (Some (opened h)) call ≡ None
no_refusal (calls.SetItem item value) h e = refl
no_refusal (calls.GetItem item) h e = refl
no_refusal (calls.PutEnv text) h e = refl
no_refusal (calls.GetEnv name) h e = refl
no_refusal calls.EnvList h e = refl
no_refusal (calls.FailDelay micros) h e = refl
no_refusal (calls.DelayFn on) h e = refl
no_refusal call h e = absurd (cc)

fails_same : (tells : Bool) (call : AppCall) (h next : PlainHandle) → is_inside call ≡ true → next ≡ all_told h → Fails tells call (opened h) (opened next)
fails_same tells (calls.SetItem item value) h next e same = ap opened same
fails_same tells (calls.GetItem item) h next e same = ap opened same
fails_same tells (calls.PutEnv text) h next e same = ap opened same
fails_same tells (calls.GetEnv name) h next e same = ap opened same
fails_same tells calls.EnvList h next e same = ap opened same
fails_same tells (calls.FailDelay micros) h next e same = ap opened same
fails_same tells (calls.DelayFn on) h next e same = ap opened same
fails_same tells call h next e same = absurd (cc)

stops_nowhere : (players : List Player) (tells : Bool) (call : AppCall) (old new : PlainSlot) (w v : PlainWorld) → is_inside call ≡ true → StopsOn players tells call old new w v
stops_nowhere players tells (calls.SetItem item value) old new w v e = tt
stops_nowhere players tells (calls.GetItem item) old new w v e = tt
stops_nowhere players tells (calls.PutEnv text) old new w v e = tt
stops_nowhere players tells (calls.GetEnv name) old new w v e = tt
stops_nowhere players tells calls.EnvList old new w v e = tt
stops_nowhere players tells (calls.FailDelay micros) old new w v e = tt
stops_nowhere players tells (calls.DelayFn on) old new w v e = tt
stops_nowhere players tells call old new w v e = absurd (cc)

untraced : (call : AppCall) (h : PlainHandle) (new : PlainSlot) (o : PlainOutcome) → is_inside call ≡ true → TracesIn call (opened h) new o
untraced (calls.SetItem item value) h new o e = tt
untraced (calls.GetItem item) h new o e = tt
untraced (calls.PutEnv text) h new o e = tt
untraced (calls.GetEnv name) h new o e = tt
untraced calls.EnvList h new o e = tt
untraced (calls.FailDelay micros) h new o e = tt
untraced (calls.DelayFn on) h new o e = tt
untraced call h new o e = absurd (cc)

traced_nowhere : {E : Type 0} (call : AppCall) (result : Result Outcome E) (h : PlainHandle) (new : PlainSlot) → is_inside call ≡ true → IfOk result (λ o. TracesIn call (opened h) new (plain_outcome o))
traced_nowhere call (Ok o) h new e = untraced call h new (plain_outcome o) e
traced_nowhere call (Err e) h new is = tt

spends_same : (note : Notes) (modules : ℕ) (call : AppCall) (h : PlainHandle) (old new : PlainDataList) (before after : PlainLedger) → is_inside call ≡ true
    → Grows note modules old before new after → SpendsAt note modules (Some (opened h)) call old before new after
spends_same note modules (calls.SetItem item value) h old new before after e g = g
spends_same note modules (calls.GetItem item) h old new before after e g = g
spends_same note modules (calls.PutEnv text) h old new before after e g = g
spends_same note modules (calls.GetEnv name) h old new before after e g = g
spends_same note modules calls.EnvList h old new before after e g = g
spends_same note modules (calls.FailDelay micros) h old new before after e g = g
spends_same note modules (calls.DelayFn on) h old new before after e g = g
spends_same note modules call h old new before after e g = absurd (cc)

memory_by : (r : Option Answer) (free : Bool) → r ≡ None → (if is_some r then true else free) ≡ true → free ≡ true
memory_by None free r e = e
memory_by (Some a) free r e = absurd (cc)

-- a fact about an outcome and its step, if the step is another way to write the same
steps_by : {E : Type 0} (result : Result Outcome E) (s t : SlotStepped) (slot : PlainSlot) (w : PlainWorld) → s ≡ t
    → IfOk result (λ o. SlotStepsAs s (plain_outcome o) slot w) → IfOk result (λ o. SlotStepsAs t (plain_outcome o) slot w)
steps_by result s t slot w e = subst (λ (u : SlotStepped). IfOk result (λ o. SlotStepsAs u (plain_outcome o) slot w)) e

answers_by_none : {E : Type 0} (result : Result Outcome E) (call : AppCall) (r : Option Answer) → r ≡ None
    → IfOk result (λ o. CanAnswer call o.answer) → IfOk result (λ o. AnswersBy r call o.answer)
answers_by_none result call r e = subst (λ (s : Option Answer). IfOk result (λ o. AnswersBy s call o.answer)) (sym e)

filed_by : {E : Type 0} (result : Result Outcome E) (n m : ℕ) → n ≡ m → IfOk result (λ o. o.filed_from ≡ n) → IfOk result (λ o. o.filed_from ≡ m)
filed_by result n m e = subst (λ (k : ℕ). IfOk result (λ o. o.filed_from ≡ k)) e

pub failed_by : {T E : Type 0} (result : Result T E) (P Q : Type 0) → (P → Q) → OnErr result P → OnErr result Q
failed_by (Ok o) P Q f p = p
failed_by (Err e) P Q f p = f p

pub first_of : (a b : Bool) → IsTrue (a && b) → IsTrue a
first_of true b e = refl
first_of false b e = absurd (cc)

pub both_of : (a b : Bool) → IsTrue a → IsTrue b → IsTrue (a && b)
both_of true b e f = f
both_of false b e f = absurd (cc)

pub second_of : (a b : Bool) → IsTrue (a && b) → IsTrue b
second_of true b e = e
second_of false b e = absurd (cc)

module _ (players : List Player) (gives : (Code → ℕ → ℕ) → Type 0) (tells world_tells : Bool) (faults : ℕ) (h : PlainHandle) (w : PlainWorld) where
  pub inside_goes : (call : AppCall) (n : ℕ) (result : Result Outcome NoMemory) (next : PlainHandle) → is_inside call ≡ true → NothingGrows
      → h ≡ all_told h → h.names ≡ names_of players → h.room.transaction.datums.gone ≡ [] → n ≡ filed_in w
      → StaysInside call n h result next
      → CalledInSlot h.room.transaction.handle call (slot_seen players gives tells world_tells faults (opened h) w) result (opened next) w
  inside_goes call n result next inside grows told names gone filed goes =
      let steps : (number_of : Code → ℕ → ℕ) → IfOk result (λ o. SlotStepsAs (slot_step players number_of h.room.transaction.handle (opened h) w call) (plain_outcome o) (opened next) w) =
      λ number_of. steps_by result (open_step players number_of h w call) (open_step players number_of (all_told h) w call) (opened next) w
      (ap (λ (k : PlainHandle). open_step players number_of k w call) told) (goes.steps players number_of w (sym filed)) in
      record {
        told = λ number_of given all. steps number_of;
        alone = λ number_of inside. steps number_of;
        answers = answers_by_none result call (refusal (Some (opened h)) call) (no_refusal call h inside) goes.answers;
        traces = traced_nowhere call result h (opened next) inside;
        filed_from = filed_by result n (filed_in w) filed goes.filed_from;
        succeeds = λ e. goes.succeeds (memory_by (refusal (Some (opened h)) call) (is_free call) (no_refusal call h inside) e);
        fails = failed_by result (next ≡ h) (Fails tells call (opened h) (opened next)) (λ (same : next ≡ h). fails_same tells call h next inside (same ∙ told)) goes.fails;
        stops = failed_by result (next ≡ h) (StopsOn players (tells && world_tells) call (opened h) (opened next) w w) (λ (same : next ≡ h). stops_nowhere players (tells && world_tells) call (opened h) (opened next) w w inside) goes.fails;
        placed = record { handle = goes.handle; started_with = goes.names ∙ names };
        spends = spends_same (notes_of players) (length players) call h h.room.transaction.datums next.room.transaction.datums w.process.ledger w.process.ledger inside
            (subst (λ (l : PlainDataList). Grows (notes_of players) (length players) h.room.transaction.datums w.process.ledger l w.process.ledger) (sym goes.datums)
            (grows (notes_of players) (length players) h.room.transaction.datums w.process.ledger gone));
        root = refl;
        caller = refl;
      }
