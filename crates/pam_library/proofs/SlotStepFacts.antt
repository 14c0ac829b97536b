-- A step in one slot, as a change of all slots.
use Rattle.std.proofs.lemmas.Bool.Decides.{nat_tests}
use Rattle.std.proofs.Common.{◌≡◌, ◌≢◌, ℕ, zero, suc, ◌+◌, ◌-◌, ◌<◌, ◌≤◌, ◌++◌, nat_eq, Bool, true, false, ◌&&◌, if◌then◌else◌, IsTrue, IsOk, IfOk, OnErr, List, [], ◌∷◌, length, map, get_or, slice_get, slice_set, Option, Some, None, option_map, Result, Ok, Err, refl, sym, ap, ◌∙◌, subst, arith}
use Rattle.std.specs.List.{SwappedAt, list_all}
use Rattle.std.proofs.lemmas.List.{ext_get_or, get_or_append_left, get_or-set_other, get_or-set_same, length-set}
use Rattle.std.proofs.lemmas.Option.{slice_get-map, slice_get_past, slice_get_read}
use Rattle.pam_base.specs.declared.code.Code.{Code}
use Rattle.pam_base.specs.declared.call.AppCall.{AppCall}
use Rattle.pam_base.specs.declared.call.AppCall.TheVariants as calls
use Rattle.pam_base.specs.declared.call.Func.{Func}
use Rattle.pam_base.specs.declared.call.Step.{Step}
use Rattle.pam_base.specs.declared.fault.NoMemory.{NoMemory}
use Rattle.data_cleanup.specs.DataList.{PlainDataList}
use Rattle.data_cleanup.specs.Ledger.{AreNumbered, PlainLedger}
use Rattle.data_cleanup.specs.Cleanup.{AwaitCleanup, Notes}
use Rattle.data_cleanup.specs.Modelled.{Lists}
use Rattle.data_cleanup.specs.Kept.{AreHeld}
use Rattle.data_cleanup.specs.Moves.{Moves}
use Rattle.pam_handle.specs.dispatch_core.specs.Lines.{names_of}
use Rattle.pam_handle.specs.pam_room.specs.Module.{Player, notes_of}
use Rattle.pam_handle.specs.pam_room.specs.State.{PlainWorld, PlainProcess}
use Rattle.pam_library.specs.declared.outcome.Answer.TheVariants as answers
use Rattle.pam_library.specs.declared.outcome.Outcome.{Outcome}
use Rattle.pam_library.specs.Outcome.{plain_outcome}
use Rattle.pam_library.specs.Slots.{PlainSlot, closed, opened, slot_at, with_slot, data_in, lists_of}
use Rattle.pam_library.specs.SlotStep.{SlotStepsAs, filed_in, slot_step}
use Rattle.pam_library.specs.Step.{Stepped, StepsAs, stepped, stepped_at}
use Rattle.pam_library.specs.Sound.{IsAtPlace, IsSound}
use Rattle.pam_library.specs.AnyWorld.{AnswersBy, Fails, FailsAt, FailsBy, SpendsAt, StopsAt, StopsOn, end_at, refusal, stays_inside, takes_no_memory}
use Rattle.pam_library.specs.InPlace.{CalledInSlot, IsReadyAt, SaysOnly}
use Rattle.pam_library.specs.Traced.{TracesAt}
use Rattle.pam_library.specs.StackOf.{stack_of}
use Rattle.pam_library.proofs.OutOfMemoryFacts.{stops_when}
use Rattle.pam_library.proofs.SlotNumberFacts.{slot_at-with_slot_other, slot_at-with_slot_same, slot_at-within}
use Rattle.pam_library.proofs.Within.{failed_by}
use Rattle.pam_library.proofs.SeenSlot.{slot_seen}

-- ---- an element that is taken out and put back

get_or_at_end : {A : Type 0} (xs : List A) (y : A) → get_or (xs ++ y ∷ []) (length xs) y ≡ y
get_or_at_end [] y = refl
get_or_at_end (x ∷ xs) y = get_or_at_end xs y

set-map : {A B : Type 0} (f : A → B) (xs : List A) (i : ℕ) (y : A) → map f (slice_set xs i y) ≡ slice_set (map f xs) i (f y)
set-map f [] i y = refl
set-map f (x ∷ xs) zero y = refl
set-map f (x ∷ xs) (suc i) y = ap (λ (l : List _). f x ∷ l) (set-map f xs i y)

all-set : {A : Type 0} (p : A → Bool) (xs : List A) (i : ℕ) (x y : A) → slice_get xs i ≡ Some x → p y ≡ p x → list_all p (slice_set xs i y) ≡ list_all p xs
all-set p [] i x y is same = refl
all-set p (z ∷ xs) zero x y is same = let e : z ≡ x = cc in ap (λ (b : Bool). b && list_all p xs) (same ∙ ap p (sym e))
all-set p (z ∷ xs) (suc i) x y is same = ap (λ (b : Bool). p z && b) (all-set p xs i x y is same)

and_first : (a b : Bool) → (a && b) ≡ true → a ≡ true
and_first true b e = refl
and_first false b e = e

and_second : (a b : Bool) → (a && b) ≡ true → b ≡ true
and_second true b e = e
and_second false b e = absurd (cc)

all-at : {A : Type 0} (p : A → Bool) (xs : List A) (i : ℕ) (x : A) → slice_get xs i ≡ Some x → list_all p xs ≡ true → p x ≡ true
all-at p [] i x is all = absurd (cc)
all-at p (z ∷ xs) zero x is all = let e : z ≡ x = cc in ap p (sym e) ∙ and_first (p z) (list_all p xs) all
all-at p (z ∷ xs) (suc i) x is all = all-at p xs i x is (and_second (p z) (list_all p xs) all)

-- an element of a list was taken out, and another one put back at the same index
pub record IsReplaced {A : Type 0} (xs ys : List A) (number : ℕ) (x y : A) : Type 0 where
  pub there : slice_get xs (number - 1) ≡ Some x
  pub ys_is : ys ≡ slice_set xs (number - 1) y

chosen : {A : Type 0} (b : Bool) (xs ys : List A) → b ≡ true → (if b then xs else ys) ≡ xs
chosen true xs ys e = refl
chosen false xs ys e = absurd (cc)

-- the last element was at that index meanwhile
pub swapped_back : {A : Type 0} (xs rest ys : List A) (i : ℕ) (y : A) → i < length xs → length rest + 1 ≡ length xs → length ys ≡ length rest + 1
    → ((d : A) → i + 1 < length xs → get_or rest i d ≡ get_or xs (length xs - 1) d)
    → ((k : ℕ) (d : A) → k ≢ i → k + 1 < length xs → get_or rest k d ≡ get_or xs k d)
    → SwappedAt (rest ++ y ∷ []) ys i (length rest) → ys ≡ slice_set xs i y
swapped_back xs rest ys i y within shorter long last others swapped =
    ext_get_or y ys (slice_set xs i y) (long ∙ shorter ∙ sym (length-set xs i y)) (λ k below.
    elim (nat_eq k i) as (λ (b : Bool). nat_eq k i ≡ b → get_or ys k y ≡ get_or (slice_set xs i y) k y) [
      | true ↦ λ e.
          let here : k ≡ i = grind (arith, nat_tests) in
          ap (λ (n : ℕ). get_or ys n y) here ∙ swapped.0 y ∙ get_or_at_end rest y ∙ sym (get_or-set_same xs i y y within) ∙ ap (λ (n : ℕ). get_or (slice_set xs i y) n y) (sym here)
      | false ↦ λ e.
          let away : k ≢ i = λ (same : k ≡ i). grind (arith, nat_tests) in
          elim (nat_eq k (length rest)) as (λ (b : Bool). nat_eq k (length rest) ≡ b → get_or ys k y ≡ get_or (slice_set xs i y) k y) [
            | true ↦ λ e2.
                let at_last : k ≡ length rest = grind (arith, nat_tests) in
                let last_of : length xs - 1 ≡ k = omega arith in
                let inside : i < length rest = grind arith in
                let fits : i + 1 < length xs = omega arith in
                ap (λ (n : ℕ). get_or ys n y) at_last ∙ swapped.1 y ∙ get_or_append_left rest (y ∷ []) y i inside ∙ last y fits ∙ ap (λ (n : ℕ). get_or xs n y) last_of ∙ sym (get_or-set_other xs i k y y away)
            | false ↦ λ e2.
                let off : k ≢ length rest = λ (same : k ≡ length rest). grind (arith, nat_tests) in
                let inside : k < length rest = grind arith in
                let fits : k + 1 < length xs = omega arith in
                swapped.2 k y away off ∙ get_or_append_left rest (y ∷ []) y k inside ∙ others k y away fits ∙ sym (get_or-set_other xs i k y y away)
          ] refl
    ] refl)

pub replaced : {A : Type 0} (xs rest ys : List A) (number : ℕ) (x y : A) → 0 < number → number ≤ length xs
    → x ≡ get_or xs (number - 1) x → length rest + 1 ≡ length xs → length ys ≡ length rest + 1
    → ((d : A) → number - 1 + 1 < length xs → get_or rest (number - 1) d ≡ get_or xs (length xs - 1) d)
    → ((k : ℕ) (d : A) → k ≢ number - 1 → k + 1 < length xs → get_or rest k d ≡ get_or xs k d)
    → SwappedAt (rest ++ y ∷ []) ys (number - 1) (length rest) → IsReplaced xs ys number x y
replaced xs rest ys number x y some within read shorter long last others swapped =
    let i : ℕ = number - 1 in
    let in_list : i < length xs = omega arith in
    record {
      there = slice_get_read xs (length xs) i x refl in_list read;
      ys_is = swapped_back xs rest ys i y in_list shorter long last others swapped;
    }

-- ---- the slots

pub record IsPut (slots next : List PlainSlot) (number : ℕ) (old new : PlainSlot) : Type 0 where
  pub there : slot_at slots number ≡ Some old
  pub next_is : next ≡ with_slot slots number new

at_number : (slots : List PlainSlot) (number : ℕ) → 0 < number → slot_at slots number ≡ slice_get slots (number - 1)
at_number slots zero some = absurd (omega arith)
at_number slots (suc i) some = let e : i ≡ suc i - 1 = omega arith in ap (slice_get slots) e

put_number : (slots : List PlainSlot) (number : ℕ) (slot : PlainSlot) → 0 < number → with_slot slots number slot ≡ slice_set slots (number - 1) slot
put_number slots zero slot some = absurd (omega arith)
put_number slots (suc i) slot some = let e : i ≡ suc i - 1 = omega arith in ap (λ (k : ℕ). slice_set slots k slot) e

pub put : {A : Type 0} (f : A → PlainSlot) (xs ys : List A) (number : ℕ) (x y : A) → 0 < number → IsReplaced xs ys number x y
    → IsPut (map f xs) (map f ys) number (f x) (f y)
put f xs ys number x y some r = record {
  there = at_number (map f xs) number some ∙ slice_get-map f xs (number - 1) ∙ ap (option_map f) r.there;
  next_is = ap (map f) r.ys_is ∙ set-map f xs (number - 1) y ∙ sym (put_number (map f xs) number (f y) some);
}

pub tell_as : {A : Type 0} (p : A → Bool) (xs ys : List A) (number : ℕ) (x y : A) → IsReplaced xs ys number x y → p y ≡ p x → list_all p ys ≡ list_all p xs
tell_as p xs ys number x y r same = ap (list_all p) r.ys_is ∙ all-set p xs (number - 1) x y r.there same

pub tells_at : {A : Type 0} (p : A → Bool) (xs ys : List A) (number : ℕ) (x y : A) → IsReplaced xs ys number x y → IsTrue (list_all p xs) → IsTrue (p x)
tells_at p xs ys number x y r all = all-at p xs (number - 1) x r.there all

-- ---- if there is no such slot

pub none_first : (slots : List PlainSlot) (number : ℕ) → number ≡ 0 → slot_at slots number ≡ None
none_first slots zero e = refl
none_first slots (suc i) e = absurd (omega arith)

pub none_beyond : (slots : List PlainSlot) (number : ℕ) → length slots < number → slot_at slots number ≡ None
none_beyond slots zero beyond = absurd (omega arith)
none_beyond slots (suc i) beyond = slice_get_past slots i (omega arith)

length_of : {A : Type 0} (f : A → PlainSlot) (xs : List A) → length (map f xs) ≡ length xs
length_of f [] = refl
length_of f (x ∷ xs) = ap suc (length_of f xs)

pub slots_length : {A : Type 0} (f : A → PlainSlot) (xs : List A) (number : ℕ) → length xs < number → length (map f xs) < number
slots_length f xs number beyond = omega (arith, length_of f xs)

module _ (players : List Player) (number_of : Code → ℕ → ℕ) (slots : List PlainSlot) (w : PlainWorld) (step : Step) where
  found_as : (found : Option PlainSlot) → slot_at slots step.number ≡ found
      → stepped players number_of slots w step ≡ stepped_at players number_of slots w step.number step.call found
  unfolding stepped
  found_as found is = ap (stepped_at players number_of slots w step.number step.call) is

  pub bad_number : (o : Outcome) → slot_at slots step.number ≡ None → SaysOnly (filed_in w) answers.BadNumber o
      → StepsAs (stepped players number_of slots w step) (plain_outcome o) slots w
  bad_number o none only =
      let e : stepped players number_of slots w step ≡ stepped_at players number_of slots w step.number step.call None = found_as None none in
      record {
        outcome_is = only ∙ sym (ap (λ (s : Stepped). s.outcome) e);
        slots_is = sym (ap (λ (s : Stepped). s.slots) e);
        world_is = sym (ap (λ (s : Stepped). s.world) e);
      }

  in_all : (o : Outcome) (old new : PlainSlot) (next : List PlainSlot) (v : PlainWorld) → IsPut slots next step.number old new
      → SlotStepsAs (slot_step players number_of step.number old w step.call) (plain_outcome o) new v → StepsAs (stepped players number_of slots w step) (plain_outcome o) next v
  in_all o old new next v is s =
      let e : stepped players number_of slots w step ≡ stepped_at players number_of slots w step.number step.call (Some old) = found_as (Some old) is.there in
      record {
        outcome_is = s.outcome_is ∙ sym (ap (λ (t : Stepped). t.outcome) e);
        slots_is = is.next_is ∙ ap (with_slot slots step.number) s.slot_is ∙ sym (ap (λ (t : Stepped). t.slots) e);
        world_is = s.world_is ∙ sym (ap (λ (t : Stepped). t.world) e);
      }

  pub all_step : {E : Type 0} (result : Result Outcome E) (old new : PlainSlot) (next : List PlainSlot) (v : PlainWorld) → IsPut slots next step.number old new
      → IfOk result (λ o. SlotStepsAs (slot_step players number_of step.number old w step.call) (plain_outcome o) new v) → IfOk result (λ o. StepsAs (stepped players number_of slots w step) (plain_outcome o) next v)
  all_step (Ok o) old new next v is s = in_all o old new next v is s
  all_step (Err e) old new next v is s = s

-- ---- before a step

abbrev pub AwaitsLaw : Type 0
AwaitsLaw = (modules limit handle : ℕ) (ledger : PlainLedger) (lists : Lists) → AreHeld modules limit ledger lists → handle < limit → AwaitCleanup modules ledger (lists handle).live

ready_by : (names : List (List ℕ)) (modules : ℕ) (slots : List PlainSlot) (process : PlainProcess) (number : ℕ) (slot : PlainSlot) → AwaitsLaw
    → IsSound names modules slots process.ledger → slot_at slots number ≡ Some slot → IsAtPlace names number slot → IsReadyAt modules slot process
ready_by names modules slots process number (closed conv) law sound there placed = tt
ready_by names modules slots process number (opened h) law sound there placed =
    let mine : lists_of slots number ≡ h.room.transaction.datums = ap (data_in number) there in
    let within = slot_at-within slots number (opened h) there in
    record {
      data_handle = ap (λ (l : PlainDataList). l.handle) (sym mine ∙ sound.held.clean number) ∙ sym placed.handle;
      none_gone = ap (λ (l : PlainDataList). l.gone) (sym mine ∙ sound.held.clean number);
      awaiting = subst (λ (l : PlainDataList). AwaitCleanup modules process.ledger l.live) mine (law modules 17 number process.ledger (lists_of slots) sound.held (omega (arith, within.1, sound.placed.sixteen)));
    }

pub ready_at : (names : List (List ℕ)) (modules : ℕ) (slots : List PlainSlot) (process : PlainProcess) (number : ℕ) (slot : PlainSlot) → AwaitsLaw
    → IsSound names modules slots process.ledger → slot_at slots number ≡ Some slot → IsReadyAt modules slot process
ready_at names modules slots process number slot law sound there = ready_by names modules slots process number slot law sound there (sound.placed.each number slot there)

-- ---- after it

abbrev pub SoundLaw : Type 0
SoundLaw = (note : Notes) (names : List (List ℕ)) (modules : ℕ) (slots : List PlainSlot) (number : ℕ) (old new : PlainSlot) (call : AppCall) (before after : PlainLedger) →
    IsSound names modules slots before → slot_at slots number ≡ Some old → IsAtPlace names number new →
    SpendsAt note modules (Some old) call (data_in number (Some old)) before (data_in number (Some new)) after → AreNumbered 0 after.births →
    IsSound names modules (with_slot slots number new) after

abbrev pub MovesLaw : Type 0
MovesLaw = (note : Notes) (names : List (List ℕ)) (modules : ℕ) (slots : List PlainSlot) (number : ℕ) (old new : PlainSlot) (call : AppCall) (before after : PlainLedger) →
    IsSound names modules slots before → slot_at slots number ≡ Some old → IsAtPlace names number new →
    SpendsAt note modules (Some old) call (data_in number (Some old)) before (data_in number (Some new)) after → AreNumbered 0 after.births →
    Moves note 17 (end_at (Some old) number call) before (lists_of slots) after (lists_of (with_slot slots number new))

fails_when : (tells all : Bool) (stack : Option (Func × ℕ)) (call : AppCall) (old new : PlainSlot) → (IsTrue all → IsTrue tells) → FailsBy tells stack call old new → FailsBy all stack call old new
fails_when tells all (Some stack) call old new more f = f
fails_when tells all None (calls.Reply text) old new more f = record { rest = f.rest; told = λ e. f.told (more e) }
fails_when tells all None call old new more f = f

module _ (players : List Player) (gives : (Code → ℕ → ℕ) → Type 0) (tells world_tells : Bool) (faults : ℕ) (number : ℕ) (call : AppCall) (slots next : List PlainSlot) (old new : PlainSlot) (w v : PlainWorld) (result : Result Outcome NoMemory)
    (is : IsPut slots next number old new) (goes : CalledInSlot number call (slot_seen players gives tells world_tells faults old w) result new v) where
  pub others_stay : (other : ℕ) → (other ≡ number → ⊥) → slot_at next other ≡ slot_at slots other
  others_stay other differs = ap (λ (s : List PlainSlot). slot_at s other) is.next_is ∙ slot_at-with_slot_other slots number other new differs

  new_there : slot_at next number ≡ Some new
  new_there = ap (λ (s : List PlainSlot). slot_at s number) is.next_is ∙ slot_at-with_slot_same slots number old new is.there

  pub sound_after : SoundLaw → IsSound (names_of players) (length players) slots w.process.ledger → AreNumbered 0 v.process.ledger.births
      → IsSound (names_of players) (length players) next v.process.ledger
  sound_after law sound numbered = subst (λ (s : List PlainSlot). IsSound (names_of players) (length players) s v.process.ledger) (sym is.next_is)
      (law (notes_of players) (names_of players) (length players) slots number old new call w.process.ledger v.process.ledger sound is.there goes.placed goes.spends numbered)

  pub moves_after : MovesLaw → IsSound (names_of players) (length players) slots w.process.ledger → AreNumbered 0 v.process.ledger.births
      → Moves (notes_of players) 17 (end_at (slot_at slots number) number call) w.process.ledger (lists_of slots) v.process.ledger (lists_of next)
  moves_after law sound numbered =
      subst (λ (s : List PlainSlot). Moves (notes_of players) 17 (end_at (slot_at slots number) number call) w.process.ledger (lists_of slots) v.process.ledger (lists_of s)) (sym is.next_is)
      (subst (λ (o : Option PlainSlot). Moves (notes_of players) 17 (end_at o number call) w.process.ledger (lists_of slots) v.process.ledger (lists_of (with_slot slots number new))) (sym is.there)
      (law (notes_of players) (names_of players) (length players) slots number old new call w.process.ledger v.process.ledger sound is.there goes.placed goes.spends numbered))

  pub spends_after : SpendsAt (notes_of players) (length players) (slot_at slots number) call (lists_of slots number) w.process.ledger (lists_of next number) v.process.ledger
  spends_after =
      subst (λ (o : Option PlainSlot). SpendsAt (notes_of players) (length players) o call (data_in number o) w.process.ledger (lists_of next number) v.process.ledger) (sym is.there)
      (subst (λ (o : Option PlainSlot). SpendsAt (notes_of players) (length players) (Some old) call (data_in number (Some old)) w.process.ledger (data_in number o) v.process.ledger) (sym new_there) goes.spends)

  pub answer_after : IfOk result (λ o. AnswersBy (refusal (slot_at slots number) call) call o.answer)
  answer_after = subst (λ (s : Option PlainSlot). IfOk result (λ o. AnswersBy (refusal s call) call o.answer)) (sym is.there) goes.answers

  pub traces_after : IfOk result (λ o. TracesAt call (slot_at slots number) (slot_at next number) (plain_outcome o))
  traces_after =
      subst (λ (s : Option PlainSlot). IfOk result (λ o. TracesAt call s (slot_at next number) (plain_outcome o))) (sym is.there)
      (subst (λ (s : Option PlainSlot). IfOk result (λ o. TracesAt call (Some old) s (plain_outcome o))) (sym new_there) goes.traces)

  pub succeeds_after : takes_no_memory (slot_at slots number) call ≡ true → IsOk result
  succeeds_after e = goes.succeeds (subst (λ (s : Option PlainSlot). takes_no_memory s call ≡ true) is.there e)

  pub inside_after : stays_inside (slot_at slots number) call ≡ true → stays_inside (Some old) call ≡ true
  inside_after e = subst (λ (s : Option PlainSlot). stays_inside s call ≡ true) is.there e

  pub fails_after : (all : Bool) → (IsTrue all → IsTrue tells) → OnErr result (FailsAt all call (slot_at slots number) (slot_at next number))
  fails_after all more =
      subst (λ (s : Option PlainSlot). OnErr result (FailsAt all call s (slot_at next number))) (sym is.there)
      (subst (λ (s : Option PlainSlot). OnErr result (FailsAt all call (Some old) s)) (sym new_there)
      (failed_by result (Fails tells call old new) (FailsAt all call (Some old) (Some new)) (fails_when tells all (stack_of call) call old new more) goes.fails))

  pub stops_after : (all : Bool) → (IsTrue all → IsTrue (tells && world_tells)) → OnErr result (StopsAt players all call (slot_at slots number) (slot_at next number) w v)
  stops_after all known =
      subst (λ (s : Option PlainSlot). OnErr result (StopsAt players all call s (slot_at next number) w v)) (sym is.there)
      (subst (λ (s : Option PlainSlot). OnErr result (StopsAt players all call (Some old) s w v)) (sym new_there)
      (failed_by result (StopsOn players (tells && world_tells) call old new w v) (StopsOn players all call old new w v) (stops_when players (tells && world_tells) all known (stack_of call) old new w v) goes.stops))
