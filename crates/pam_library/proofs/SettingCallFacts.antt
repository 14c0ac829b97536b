-- A call that sets something inside an open transaction, or refuses it.
use Rattle.std.proofs.Common.{◌≡◌, ◌≢◌, ◌↔◌, ℕ, Bool, true, false, if◌then◌else◌, inl, inr, IsTrue, OnOk, OnErr, List, Option, Some, None, Result, Ok, Err, refl, sym, ap, ◌∙◌, subst}
use Rattle.pam_base.specs.declared.code.Code.{Code}
use Rattle.pam_base.specs.declared.code.Code.TheVariants as codes
use Rattle.pam_base.specs.declared.call.AppCall.{AppCall}
use Rattle.pam_base.specs.declared.call.AppCall.TheVariants as calls
use Rattle.pam_base.specs.declared.fault.BadItem.{BadItem}
use Rattle.pam_base.specs.declared.fault.Refuse.{Refuse}
use Rattle.pam_base.specs.declared.fault.Refuse.TheVariants as refusals
use Rattle.pam_base.specs.declared.fault.NoMemory.{NoMemory}
use Rattle.pam_base.specs.declared.item.ItemName.{ItemName}
use Rattle.pam_base.specs.Fault.{bad_item}
use Rattle.pam_handle.specs.item_store.specs.Items.{with_text}
use Rattle.pam_handle.specs.item_store.specs.Access.{is_refused as is_refused_item}
use Rattle.pam_handle.specs.item_store.specs.declared.access.Access.TheVariants.{ApplicationSets}
use Rattle.pam_handle.specs.env_list.specs.Environment.{is_refused as is_refused_text, after_put}
use Rattle.pam_handle.specs.pam_room.specs.Module.{Player}
use Rattle.pam_handle.specs.pam_room.specs.State.{PlainWorld}
use Rattle.pam_handle.specs.Handle.{PlainHandle}
use Rattle.pam_handle.specs.Items.{with_delay_function, with_environment, with_items, with_request}
use Rattle.pam_library.specs.declared.outcome.Answer.TheVariants as answers
use Rattle.pam_library.specs.declared.outcome.Outcome.{Outcome}
use Rattle.pam_library.specs.Outcome.{answers_only}
use Rattle.pam_library.specs.Slots.{opened}
use Rattle.pam_library.specs.SlotStep.{SlotStepped, answered, open_step, succeeded}
use Rattle.pam_library.specs.AnyWorld.{CanAnswer, is_free, succeeds_or_bad_item}
use Rattle.pam_library.specs.InPlace.{StaysInside, IsCoded, SaysOnly}
use Rattle.pam_library.proofs.StackCallFacts.{answer_of, filed_of}

not_true : (b : Bool) → (IsTrue b → ⊥) → b ≡ false
not_true false not = refl
not_true true not = absurd (not refl)

module _ (call : AppCall) (h changed : PlainHandle) (bad : Bool)
    (step_is : (players : List Player) (number_of : Code → ℕ → ℕ) (w : PlainWorld)
    → open_step players number_of h w call ≡ (if bad then answered (opened h) w (answers.Code codes.BadItem) else succeeded (opened changed) w))
    (success : bad ≡ false → CanAnswer call (answers.Code codes.Success)) (refusal : bad ≡ true → CanAnswer call (answers.Code codes.BadItem))
    (same_datums : changed.room.transaction.datums ≡ h.room.transaction.datums) (same_handle : changed.room.transaction.handle ≡ h.room.transaction.handle) (same_names : changed.names ≡ h.names) where
  sets : (filed : ℕ) (next : PlainHandle) (o : Outcome) → bad ≡ false → next ≡ changed → SaysOnly filed (answers.Code codes.Success) o → StaysInside call filed h (Ok o) next
  sets filed next o not_bad same only = record {
    steps = λ players number_of w is.
        let e : open_step players number_of h w call ≡ succeeded (opened changed) w =
        step_is players number_of w ∙ ap (λ (b : Bool). if b then answered (opened h) w (answers.Code codes.BadItem) else succeeded (opened changed) w) not_bad in
        record {
          outcome_is = only ∙ ap (λ (n : ℕ). answers_only n (answers.Code codes.Success)) (sym is) ∙ sym (ap (λ (s : SlotStepped). s.outcome) e);
          slot_is = ap opened same ∙ sym (ap (λ (s : SlotStepped). s.slot) e);
          world_is = sym (ap (λ (s : SlotStepped). s.world) e);
        };
    answers = subst (CanAnswer call) (sym (answer_of o _ only)) (success not_bad);
    filed_from = filed_of o _ only;
    succeeds = λ free. refl;
    fails = tt;
    datums = ap (λ (k : PlainHandle). k.room.transaction.datums) same ∙ same_datums;
    handle = ap (λ (k : PlainHandle). k.room.transaction.handle) same ∙ same_handle;
    names = ap (λ (k : PlainHandle). k.names) same ∙ same_names;
  }

  refuses : (filed : ℕ) (next : PlainHandle) (o : Outcome) → bad ≡ true → next ≡ h → SaysOnly filed (answers.Code codes.BadItem) o → StaysInside call filed h (Ok o) next
  refuses filed next o is_bad same only = record {
    steps = λ players number_of w is.
        let e : open_step players number_of h w call ≡ answered (opened h) w (answers.Code codes.BadItem) =
        step_is players number_of w ∙ ap (λ (b : Bool). if b then answered (opened h) w (answers.Code codes.BadItem) else succeeded (opened changed) w) is_bad in
        record {
          outcome_is = only ∙ ap (λ (n : ℕ). answers_only n (answers.Code codes.BadItem)) (sym is) ∙ sym (ap (λ (s : SlotStepped). s.outcome) e);
          slot_is = ap opened same ∙ sym (ap (λ (s : SlotStepped). s.slot) e);
          world_is = sym (ap (λ (s : SlotStepped). s.world) e);
        };
    answers = subst (CanAnswer call) (sym (answer_of o _ only)) (refusal is_bad);
    filed_from = filed_of o _ only;
    succeeds = λ free. refl;
    fails = tt;
    datums = ap (λ (k : PlainHandle). k.room.transaction.datums) same;
    handle = ap (λ (k : PlainHandle). k.room.transaction.handle) same;
    names = ap (λ (k : PlainHandle). k.names) same;
  }

  goes_coded : (filed : ℕ) (next : PlainHandle) (done : Result (Unit {0}) (Refuse BadItem)) (result : Result Outcome NoMemory) → IsCoded filed done result
      → OnOk done (next ≡ changed) → OnErr done (next ≡ h) → (done ≡ Err (refusals.Named bad_item)) ↔ IsTrue bad → (is_free call ≡ true → done ≢ Err refusals.NoMemory)
      → StaysInside call filed h result next
  goes_coded filed next (Ok u) (Ok o) only ok err by free = sets filed next o (not_true bad (λ (e : IsTrue bad). let f = by.1 e in cc)) ok only
  goes_coded filed next (Ok u) (Err e) only ok err by free = absurd only
  goes_coded filed next (Err (refusals.Named item)) (Ok o) only ok err by free = refuses filed next o (by.0 refl) err only
  goes_coded filed next (Err (refusals.Named item)) (Err e) only ok err by free = absurd only
  goes_coded filed next (Err refusals.NoMemory) (Ok o) only ok err by free = absurd only
  goes_coded filed next (Err refusals.NoMemory) (Err e) only ok err by free = record {
    steps = λ players number_of w is. tt;
    answers = tt;
    filed_from = tt;
    succeeds = λ f. absurd (free f refl);
    fails = err;
    datums = ap (λ (k : PlainHandle). k.room.transaction.datums) err;
    handle = ap (λ (k : PlainHandle). k.room.transaction.handle) err;
    names = ap (λ (k : PlainHandle). k.names) err;
  }

pub requests_delay : (filed : ℕ) (h next : PlainHandle) (micros : ℕ) (o : Outcome) → next ≡ with_request micros h → SaysOnly filed (answers.Code codes.Success) o
    → StaysInside (calls.FailDelay micros) filed h (Ok o) next
requests_delay filed h next micros o same only = sets (calls.FailDelay micros) h (with_request micros h) false (λ players number_of w. refl) (λ e. refl) (λ e. absurd (cc)) refl refl refl
    filed next o refl same only

pub switches_delay : (filed : ℕ) (h next : PlainHandle) (on : Bool) (o : Outcome) → next ≡ with_delay_function on h → SaysOnly filed (answers.Code codes.Success) o
    → StaysInside (calls.DelayFn on) filed h (Ok o) next
switches_delay filed h next on o same only = sets (calls.DelayFn on) h (with_delay_function on h) false (λ players number_of w. refl) (λ e. refl) (λ e. absurd (cc)) refl refl refl
    filed next o refl same only

unset_free : (item : ItemName) (value : Option (List ℕ)) → is_free (calls.SetItem item value) ≡ true → value ≡ None
unset_free item None e = refl
unset_free item (Some text) e = absurd (cc)

module _ (filed : ℕ) (h next : PlainHandle) (done : Result (Unit {0}) (Refuse BadItem)) (result : Result Outcome NoMemory) (coded : IsCoded filed done result) (err : OnErr done (next ≡ h)) where
  pub sets_item : (item : ItemName) (value : Option (List ℕ)) → OnOk done (next ≡ with_items (with_text h.room.transaction.items item value) h)
      → (done ≡ Err (refusals.Named bad_item)) ↔ IsTrue (is_refused_item ApplicationSets item) → (value ≡ None → done ≢ Err refusals.NoMemory)
      → StaysInside (calls.SetItem item value) filed h result next
  sets_item item value ok by unset = goes_coded (calls.SetItem item value) h (with_items (with_text h.room.transaction.items item value) h) (is_refused_item ApplicationSets item)
      (λ players number_of w. refl) (λ e. ap succeeds_or_bad_item (sym e)) (λ e. ap succeeds_or_bad_item (sym e)) refl refl refl
      filed next done result coded ok err by (λ free. unset (unset_free item value free))

  pub puts_variable : (text : List ℕ) → OnOk done (next ≡ with_environment (after_put text h.room.transaction.env) h)
      → (done ≡ Err (refusals.Named bad_item)) ↔ IsTrue (is_refused_text text h.room.transaction.env) → (is_free (calls.PutEnv text) ≡ true → done ≢ Err refusals.NoMemory)
      → StaysInside (calls.PutEnv text) filed h result next
  puts_variable text ok by deletes = goes_coded (calls.PutEnv text) h (with_environment (after_put text h.room.transaction.env) h) (is_refused_text text h.room.transaction.env)
      (λ players number_of w. refl) (λ e. inl refl) (λ e. inr refl) refl refl refl
      filed next done result coded ok err by deletes
