-- If no transaction is open, all data that were set have exactly one cleanup record.
use Rattle.std.proofs.Common.{◌≡◌, ℕ, zero, suc, ltb, if◌then◌else◌, Bool, true, false, List, [], ◌∷◌, ◌++◌, map, slice_get, Option, refl}
use Rattle.std.proofs.Common.{sym, ap, ◌∙◌, subst, subst₂, arith}
use Rattle.std.specs.Prelude.{nat_eq}
use Rattle.std.specs.List.{IsDistinct}
use Rattle.data_cleanup.specs.Datum.{PlainDatum}
use Rattle.data_cleanup.specs.Cleanup.{Notes, times}
use Rattle.data_cleanup.specs.Due.{Event, birth, ends}
use Rattle.data_cleanup.specs.declared.datum.Birth.{Birth}
use Rattle.data_cleanup.specs.Ledger.{PlainLedger}
use Rattle.data_cleanup.specs.Modelled.{Lists, ModelsEvents, times_held, receipts_in}
use Rattle.pam_library.specs.Calls.{Moved, births_added, events_of}
use Rattle.pam_library.specs.Slots.{NoneIsOpen, PlainSlot, closed, opened, data_in, lists_of}
use Rattle.cmd_run.specs.AnyWorld.{AllEndsAre, Proceeds, ProceedsBy}
use Rattle.cmd_run.specs.Ends.{EndsAre}
use Rattle.cmd_run.specs.Seen.{SessionSeen, Went}
use Rattle.pam_room.specs.Module.{Player, notes_of}
use Rattle.pam_room.specs.State.{PlainProcess, PlainWorld}
use Rattle.cmd_all.specs.ByCommand.{Setup}
use Rattle.cmd_all.specs.Opened.{IsOpened}
use Rattle.cmd_all.specs.CleanedUp.{IsCleanedUp, MayEnd}
use Rattle.cmd_all.specs.Command.{Command}

-- ---- closed slots hold no data

never : {A : Type 0} → true ≡ false → A
never e = absurd (cc)

got : (slots : List PlainSlot) (i number : ℕ) → NoneIsOpen slots → (data_in number (slice_get slots i)).live ≡ []
got [] i number none = refl
got (closed conv ∷ slots) zero number none = refl
got (opened h ∷ slots) zero number none = never none.0
got (slot ∷ slots) (suc i) number none = got slots i number none.1

held_nowhere : (slots : List PlainSlot) (number : ℕ) → NoneIsOpen slots → (lists_of slots number).live ≡ []
held_nowhere slots zero none = refl
held_nowhere slots (suc i) none = got slots i (suc i) none

none_held : (limit id : ℕ) (held : ℕ → List PlainDatum) → ((handle : ℕ) → held handle ≡ []) → times_held limit id held ≡ 0
unfolding times_held
none_held zero id held nothing = refl
none_held (suc limit) id held nothing =
    let rest = none_held limit id held nothing in
    let here : times id (held limit) ≡ 0 = ap (times id) (nothing limit) in
    omega (arith, rest, here)

-- ---- ends

module _ (Is : ℕ → ℕ → Type 0) where
  both_are : (xs ys : List Event) → EndsAre Is xs → EndsAre Is ys → EndsAre Is (xs ++ ys)
  both_are [] ys a b = b
  both_are (birth x ∷ xs) ys a b = both_are xs ys a b
  both_are (ends number status ∷ xs) ys a b = (a.0, both_are xs ys a.1 b)

  births_end_nothing : (bs : List Birth) → EndsAre Is (map birth bs)
  births_end_nothing [] = tt
  births_end_nothing (b ∷ bs) = births_end_nothing bs

  -- the events of calls, by the ends that these make
  events_are : (ledger : PlainLedger) (calls : List Moved) → AllEndsAre Is calls → EndsAre Is (events_of ledger calls)
  events_are ledger [] a = tt
  events_are ledger (m ∷ calls) a =
      both_are (map birth (births_added ledger m.ledger) ++ m.ended) (events_of m.ledger calls)
      (both_are (map birth (births_added ledger m.ledger)) m.ended (births_end_nothing (births_added ledger m.ledger)) a.0) (events_are m.ledger calls a.1)

-- ---- a run

stood : (Is : ℕ → ℕ → Type 0) (note : Notes) (ledger : PlainLedger) (slots : List PlainSlot) (events : List Event)
    → EndsAre Is events → ModelsEvents note 17 ledger (lists_of slots) events → NoneIsOpen slots → IsCleanedUp Is note ledger
stood Is note ledger slots events are stand none = record {
  events = events;
  ends_are = are;
  births = stand.births;
  receipts = stand.receipts;
  tidy = stand.tidy;
  once = λ id.
      let nothing = none_held 17 id (λ (h : ℕ). (lists_of slots h).live) (λ h. held_nowhere slots h none) in
      let total = stand.once id in
      omega (arith, total, nothing);
}

pub cleaned_up : (Is : ℕ → ℕ → Type 0) (note : Notes) (before now after : PlainLedger) (slots left : List PlainSlot)
    → ((first last : PlainLedger) (lists next : Lists) (events : List Event) (p : Proceeds note first lists last next)
    → ModelsEvents note 17 first lists events → ModelsEvents note 17 last next (events ++ events_of first p.calls))
    → ModelsEvents note 17 before (lists_of slots) [] → now ≡ before → ProceedsBy Is note now (lists_of slots) after (lists_of left) → NoneIsOpen left
    → IsCleanedUp Is note after
cleaned_up Is note before now after slots left law stand same went none =
    let first : ModelsEvents note 17 now (lists_of slots) [] = subst (λ (l : PlainLedger). ModelsEvents note 17 l (lists_of slots) []) (sym same) stand in
    stood Is note after left ([] ++ events_of now went.went.calls) (events_are Is now went.went.calls went.ends_are)
    (law now after (lists_of slots) (lists_of left) [] went.went first) none

-- ---- ends in terms of other ends

module _ (P Q : ℕ → ℕ → Type 0) (also : (number status : ℕ) → P number status → Q number status) where
  ends_too : (events : List Event) → EndsAre P events → EndsAre Q events
  ends_too [] a = tt
  ends_too (birth b ∷ events) a = ends_too events a
  ends_too (ends number status ∷ events) a = (also number status a.0, ends_too events a.1)

  calls_too : (calls : List Moved) → AllEndsAre P calls → AllEndsAre Q calls
  calls_too [] a = tt
  calls_too (m ∷ calls) a = (ends_too m.ended a.0, calls_too calls a.1)

  pub proceeds_too : (note : Notes) (before : PlainLedger) (lists : Lists) (after : PlainLedger) (next : Lists) → ProceedsBy P note before lists after next
      → ProceedsBy Q note before lists after next
  proceeds_too note before lists after next p = record { went = p.went; ends_are = calls_too p.went.calls p.ends_are }

-- a library that was opened, and run from a world with the same process
pub cleaned_at : (P Is : ℕ → ℕ → Type 0) → ((number status : ℕ) → P number status → Is number status)
    → (root : List ℕ) (setup : Setup) (old : PlainWorld) (s t e : SessionSeen)
    → ((first last : PlainLedger) (lists next : Lists) (events : List Event) (p : Proceeds (notes_of t.players) first lists last next)
    → ModelsEvents (notes_of t.players) 17 first lists events → ModelsEvents (notes_of t.players) 17 last next (events ++ events_of first p.calls))
    → IsOpened root setup old s → t.players ≡ s.players → t.slots ≡ s.slots → t.world.process ≡ s.world.process → Went P t e → NoneIsOpen e.slots
    → IsCleanedUp Is (notes_of setup.players) e.world.process.ledger
cleaned_at P Is also root setup old s t e law library players slots same went none =
    let stand : ModelsEvents (notes_of t.players) 17 old.process.ledger (lists_of t.slots) [] =
    subst₂ (λ (ps : List Player) (ss : List PlainSlot). ModelsEvents (notes_of ps) 17 old.process.ledger (lists_of ss) []) (sym players) (sym slots)
    library.none_yet in
    let ledger : t.world.process.ledger ≡ old.process.ledger = ap (λ (p : PlainProcess). p.ledger) same
    ∙ ap (λ (w : PlainWorld). w.process.ledger) library.world_is in
    subst (λ (ps : List Player). IsCleanedUp Is (notes_of ps) e.world.process.ledger) (players ∙ library.players)
    (cleaned_up Is (notes_of t.players) old.process.ledger t.world.process.ledger e.world.process.ledger t.slots e.slots law stand ledger
    (proceeds_too P Is also (notes_of t.players) t.world.process.ledger (lists_of t.slots) e.world.process.ledger (lists_of e.slots) went.proceeds) none)

-- ---- if nothing happened

none_below : (id n : ℕ) → n ≡ 0 → n ≡ (if ltb id 0 then 1 else 0)
none_below id n e = grind arith

none_apart : IsDistinct nat_eq []
unfolding IsDistinct
none_apart = tt

pub nothing_to_clean : (Is : ℕ → ℕ → Type 0) (note : Notes) (ledger : PlainLedger) → ledger.births ≡ [] → ledger.filed ≡ [] → IsCleanedUp Is note ledger
nothing_to_clean Is note ledger births filed = record {
  events = [];
  ends_are = tt;
  births = births;
  receipts = ap receipts_in filed;
  tidy = record {
    numbered = rw births tt;
    once = rw filed none_apart;
    each = rw filed tt;
  };
  once = λ id. rw (births, filed) (none_below id 0 refl);
}

-- the same for a cleanup log that hasn't changed
pub nothing_cleaned : (Is : ℕ → ℕ → Type 0) (note : Notes) (old new : PlainLedger) → new ≡ old → old.births ≡ [] → old.filed ≡ [] → IsCleanedUp Is note new
nothing_cleaned Is note old new same births filed =
    subst (λ (l : PlainLedger). IsCleanedUp Is note l) (sym same) (nothing_to_clean Is note old births filed)

pub nothing_since : (Is : ℕ → ℕ → Type 0) (note : Notes) (old new : PlainWorld) → new ≡ old → old.process.ledger.births ≡ [] → old.process.ledger.filed ≡ []
    → IsCleanedUp Is note new.process.ledger
nothing_since Is note old new same births filed =
    nothing_cleaned Is note old.process.ledger new.process.ledger (ap (λ (w : PlainWorld). w.process.ledger) same) births filed

-- ---- for each command

pub cleaned_as : (request asked : Option Command) (tells : Bool) (script : List ℕ) (status : ℕ) (note : Notes) (ledger : PlainLedger) → asked ≡ request
    → IsCleanedUp (MayEnd asked tells script status) note ledger → IsCleanedUp (MayEnd request tells script status) note ledger
cleaned_as request asked tells script status note ledger same cleaned =
    subst (λ (r : Option Command). IsCleanedUp (MayEnd r tells script status) note ledger) same cleaned
