-- Transactions that are ended after the lines, in two runs that are alike for a number.
use Rattle.std.proofs.Common.{◌≡◌, ℕ, zero, suc, ◌+◌, ◌≤◌, Bool, true, false, nat_eq, List, [], ◌∷◌, ◌++◌, length, Option, Some, None}
use Rattle.std.proofs.Common.{slice_get, slice_set, refl, sym, ap, ◌∙◌, subst, arith, append_assoc, append-nil}
use Rattle.std.proofs.lemmas.Bool.Decides.{nat_tests}
use Rattle.pam_base.specs.declared.call.AppCall.TheVariants.{End}
use Rattle.pam_base.specs.declared.call.Step.{Step}
use Rattle.pam_base.specs.declared.code.Code.{Code}
use Rattle.pam_base.specs.Code.{number_of}
use Rattle.report_step.specs.pam_room.specs.State.{PlainWorld}
use Rattle.report_step.specs.pam_library.specs.Alike.{AreAlike}
use Rattle.report_step.specs.pam_library.specs.Slots.{PlainSlot, closed, opened, slot_at}
use Rattle.report_step.specs.pam_library.specs.Step.{Stepped, stepped, stepped_at}
use Rattle.cmd_run.specs.Closings.{all_closed, closings_after, last_state, world_after}
use Rattle.cmd_run.specs.State.{RunState, Setting, state_of}
use Rattle.cmd_run.specs.Isolation.{world_left}
use Rattle.cmd_run.proofs.IsolatedRunFacts.{Alike, OtherCalls, OwnCalls}

-- ---- slots in a list

pub at_front : (front slots : List PlainSlot) (x : PlainSlot) → slice_get (front ++ x ∷ slots) (length front) ≡ Some x
at_front [] slots x = refl
at_front (y ∷ front) slots x = at_front front slots x

set_at_front : (front slots : List PlainSlot) (x y : PlainSlot) → slice_set (front ++ x ∷ slots) (length front) y ≡ front ++ y ∷ slots
set_at_front [] slots x y = refl
set_at_front (z ∷ front) slots x y = ap (λ (l : List PlainSlot). z ∷ l) (set_at_front front slots x y)

beyond : (slots : List PlainSlot) (i : ℕ) → length slots ≤ i → slice_get slots i ≡ None
beyond [] i long = refl
beyond (x ∷ slots) zero long = absurd (omega arith)
beyond (x ∷ slots) (suc i) long = beyond slots i (omega arith)

pub one_longer : (front : List PlainSlot) (x : PlainSlot) → length (front ++ x ∷ []) ≡ suc (length front)
one_longer [] x = refl
one_longer (y ∷ front) x = ap suc (one_longer front x)

module _ (setting : Setting) (status : Code) where
  abbrev pub end_step : ℕ → Step
  end_step number = record { number = number; call = End (number_of status) }

  -- a slot is ended by a call
  abbrev end_at : ℕ → RunState → RunState
  end_at number s = let t : Stepped = stepped setting.players setting.delay s.slots s.world (end_step number) in state_of t.slots t.world

  -- n slots are ended, one after another, after the first i
  unfoldable pub ends_from : ℕ → ℕ → RunState → RunState
  ends_from i zero s = s
  ends_from i (suc k) s = ends_from (suc i) k (end_at (suc i) s)

  -- ---- the implicit ends are calls

  abbrev by_place : ℕ → RunState → Option PlainSlot → RunState
  by_place number s found = let t : Stepped = stepped_at setting.players setting.delay s.slots s.world number (End (number_of status)) found in
      state_of t.slots t.world

  by_found : (number : ℕ) (s : RunState) (found : Option PlainSlot) → slot_at s.slots number ≡ found → end_at number s ≡ by_place number s found
  unfolding stepped
  by_found number s found is = ap (by_place number s) is

  none_left : (k i : ℕ) (s : RunState) → length s.slots ≤ i → ends_from i k s ≡ s
  unfolding ends_from
  none_left zero i s long = refl
  none_left (suc k) i s long =
      let stays : end_at (suc i) s ≡ s = by_found (suc i) s None (beyond s.slots i long) in
      ap (ends_from (suc i) k) stays ∙ none_left k (suc i) s (omega arith)

  -- a slot after its end
  abbrev pub left_after : PlainSlot → PlainSlot
  left_after (closed conv) = closed conv
  left_after (opened h) = closed h.room.conv

  ends_place : (x : PlainSlot) (front slots : List PlainSlot) (w : PlainWorld)
      → by_place (suc (length front)) (state_of (front ++ x ∷ slots) w) (Some x)
      ≡ state_of (front ++ left_after x ∷ slots) (world_left setting.players status x w)
  ends_place (closed conv) front slots w = ap (λ (l : List PlainSlot). state_of l w) (set_at_front front slots (closed conv) (closed conv))
  ends_place (opened h) front slots w = ap (λ (l : List PlainSlot). state_of l (world_after setting.players status h w))
      (set_at_front front slots (opened h) (closed h.room.conv))

  pub ends_next : (x : PlainSlot) (front slots : List PlainSlot) (i : ℕ) (w : PlainWorld) → i ≡ length front
      → end_at (suc i) (state_of (front ++ x ∷ slots) w) ≡ state_of (front ++ left_after x ∷ slots) (world_left setting.players status x w)
  ends_next x front slots i w at =
      ap (λ (j : ℕ). end_at (suc j) (state_of (front ++ x ∷ slots) w)) at
      ∙ by_found (suc (length front)) (state_of (front ++ x ∷ slots) w) (Some x) (at_front front slots x)
      ∙ ends_place x front slots w

  past_all : (x : PlainSlot) (front slots : List PlainSlot) (w : PlainWorld) →
      last_state (state_of (front ++ x ∷ slots) w) (closings_after setting.players status front (x ∷ slots) w)
      ≡ last_state (state_of ((front ++ left_after x ∷ []) ++ slots) (world_left setting.players status x w))
      (closings_after setting.players status (front ++ left_after x ∷ []) slots (world_left setting.players status x w))
  unfolding closings_after
  past_all (closed conv) front slots w =
      ap (λ (l : List PlainSlot). last_state (state_of l w) (closings_after setting.players status (front ++ closed conv ∷ []) slots w))
      (sym (append_assoc front (closed conv ∷ []) slots))
  past_all (opened h) front slots w =
      ap (λ (l : List PlainSlot). last_state (state_of l (world_after setting.players status h w))
      (closings_after setting.players status (front ++ closed h.room.conv ∷ []) slots (world_after setting.players status h w)))
      (sym (append_assoc front (closed h.room.conv ∷ []) slots))

  closed_by_calls : (slots front : List PlainSlot) (i k : ℕ) (w : PlainWorld) → i ≡ length front → length slots ≤ k →
      last_state (state_of (front ++ slots) w) (closings_after setting.players status front slots w) ≡ ends_from i k (state_of (front ++ slots) w)
  unfolding closings_after ends_from
  closed_by_calls [] front i k w at fits =
      let all : length (front ++ []) ≤ i = subst (λ (l : List PlainSlot). length l ≤ i) (sym (append-nil front)) (omega (arith, at)) in
      sym (none_left k i (state_of (front ++ []) w) all)
  closed_by_calls (x ∷ slots) front i zero w at fits = absurd (omega arith)
  closed_by_calls (x ∷ slots) front i (suc k) w at fits =
      let more : List PlainSlot = front ++ left_after x ∷ [] in
      let v : PlainWorld = world_left setting.players status x w in
      let next : suc i ≡ length more = ap suc at ∙ sym (one_longer front (left_after x)) in
      let rest : last_state (state_of (more ++ slots) v) (closings_after setting.players status more slots v)
      ≡ ends_from (suc i) k (state_of (more ++ slots) v) = closed_by_calls slots more (suc i) k v next (omega arith) in
      past_all x front slots w
      ∙ rest
      ∙ ap (λ (l : List PlainSlot). ends_from (suc i) k (state_of l v)) (append_assoc front (left_after x ∷ []) slots)
      ∙ ap (ends_from (suc i) k) (sym (ends_next x front slots i w at))

  all_by_calls : (s : RunState) (k : ℕ) → length s.slots ≤ k → all_closed setting.players status s ≡ ends_from 0 k s
  all_by_calls s k fits = closed_by_calls s.slots [] 0 k s.world refl fits

  -- ---- the calls keep two runs alike

  by_place_files : (number : ℕ) (s : RunState) (found : Option PlainSlot) → (by_place number s found).world.vault.files ≡ s.world.vault.files
  by_place_files number s None = refl
  by_place_files number s (Some (closed conv)) = refl
  by_place_files number s (Some (opened h)) = refl

  end_files : (number : ℕ) (s : RunState) → (end_at number s).world.vault.files ≡ s.world.vault.files
  end_files number s = ap (λ (t : RunState). t.world.vault.files) (by_found number s (slot_at s.slots number) refl)
      ∙ by_place_files number s (slot_at s.slots number)

  module _ (number : ℕ) (own : OwnCalls) (other : OtherCalls) where
    turned : (s t : RunState) → Alike setting number s t → Alike setting number t s
    turned s t h = record {
      place = sym h.place;
      shown = sym h.shown;
      first_order = h.second_order;
      second_order = h.first_order;
      first_quiet = h.second_quiet;
      second_quiet = h.first_quiet;
    }

    end_alike : (m : ℕ) (s t : RunState) (b : Bool) → nat_eq m number ≡ b → Alike setting number s t → Alike setting number (end_at m s) (end_at m t)
    end_alike m s t true is h =
        let same : number ≡ m = grind (arith, nat_tests) in
        subst (λ (j : ℕ). AreAlike j (end_at m s).slots (end_at m s).world (end_at m t).slots (end_at m t).world) (sym same)
        (own setting.players setting.delay (end_step m) s.slots t.slots s.world t.world
        (subst (λ (j : ℕ). AreAlike j s.slots s.world t.slots t.world) same h)).alike
    end_alike m s t false is h =
        let one : Alike setting number (end_at m s) t = other setting.players setting.delay number (end_step m) s.slots t.slots s.world t.world is h
        (end_files m s) in
        turned (end_at m t) (end_at m s)
        (other setting.players setting.delay number (end_step m) t.slots (end_at m s).slots t.world (end_at m s).world is (turned (end_at m s) t one)
        (end_files m t))

    pub ends_alike : (k i : ℕ) (s t : RunState) → Alike setting number s t → Alike setting number (ends_from i k s) (ends_from i k t)
    unfolding ends_from
    ends_alike zero i s t h = h
    ends_alike (suc k) i s t h = ends_alike k (suc i) (end_at (suc i) s) (end_at (suc i) t) (end_alike (suc i) s t (nat_eq (suc i) number) refl h)

    pub closed_alike : (s t : RunState) → Alike setting number s t
        → Alike setting number (all_closed setting.players status s) (all_closed setting.players status t)
    closed_alike s t h =
        let k : ℕ = length s.slots + length t.slots in
        subst (λ (x : RunState). Alike setting number x (all_closed setting.players status t)) (sym (all_by_calls s k (omega arith)))
        (subst (λ (x : RunState). Alike setting number (ends_from 0 k s) x) (sym (all_by_calls t k (omega arith))) (ends_alike k 0 s t h))
