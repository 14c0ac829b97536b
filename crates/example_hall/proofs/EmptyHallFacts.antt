-- A hall that was empty at first, and empties again.
use Rattle.std.proofs.Common.{◌≡◌, ℕ, suc, ◌+◌, ◌<◌, List, [], ◌∷◌, length, map, Option, Some, None, refl, sym, ap, ap₂, subst, subst₂, ◌∙◌, arith}
use Rattle.std.specs.Prelude.{slice_set, option_map}
use Rattle.conv_port.specs.Conv.{ConvState}
use Rattle.data_cleanup.specs.Cleanup.{Notes}
use Rattle.data_cleanup.specs.Ledger.{PlainLedger}
use Rattle.pam_room.specs.State.{PlainWorld}
use Rattle.pam_handle.specs.Handle.{PlainHandle}
use Rattle.pam_library.specs.Slots.{PlainSlot, closed, opened, with_slot}
use Rattle.pam_library.specs.Closing.{ClosesAs, closed_one, ended_at, first_open}
use Rattle.pam_library.specs.Sound.{IsSound}

-- ---- at first

map-closed : {B : Type 0} (holds : B → ConvState) (convs : List B) → map closed (map holds convs) ≡ map (λ b. closed (holds b)) convs
map-closed holds [] = refl
map-closed holds (b ∷ convs) = ap (λ (t : List PlainSlot). closed (holds b) ∷ t) (map-closed holds convs)

length-map : {B C : Type 0} (f : B → C) (bs : List B) → length (map f bs) ≡ length bs
length-map f [] = refl
length-map f (b ∷ bs) = ap (λ (n : ℕ). suc n) (length-map f bs)

no_entries : (ledger : PlainLedger) → ledger.births ≡ [] → ledger.filed ≡ [] → record { births = []; filed = [] } ≡ ledger
no_entries ledger births filed = ap₂ (λ b f. record { births = b; filed = f }) (sym births) (sym filed)

pub sound_at_first : {B : Type 0} (holds : B → ConvState) (convs : List B) (names : List (List ℕ)) (modules : ℕ) (slots : List PlainSlot) (ledger : PlainLedger)
    → ((states : List ConvState) → length states ≡ 16 → IsSound names modules (map closed states) (record { births = []; filed = [] }))
    → length convs ≡ 16 → slots ≡ map (λ b. closed (holds b)) convs → ledger.births ≡ [] → ledger.filed ≡ []
    → IsSound names modules slots ledger
sound_at_first holds convs names modules slots ledger law sixteen are births filed =
    subst₂ (IsSound names modules) (map-closed holds convs ∙ sym are) (no_entries ledger births filed) (law (map holds convs) (length-map holds convs ∙ sixteen))

-- ---- one transaction less with each end

abbrev pub open_count : List PlainSlot → ℕ
open_count [] = 0
open_count (closed conv ∷ slots) = open_count slots
open_count (opened h ∷ slots) = open_count slots + 1

-- the place of the first open slot, if the first slot has the number n
record Lowest (n : ℕ) (slots : List PlainSlot) (number : ℕ) : Type 0 where
  place : ℕ
  is : number ≡ n + place
  fewer : (conv : ConvState) → open_count (slice_set slots place (closed conv)) < open_count slots

lowest : (n : ℕ) (slots : List PlainSlot) (number : ℕ) (h : PlainHandle) → first_open n slots ≡ Some (number, h) → Lowest n slots number
lowest n [] number h e = absurd cc
lowest n (closed conv ∷ slots) number h e =
    let l = lowest (n + 1) slots number h e in
    record { place = suc l.place; is = omega (arith, l.is); fewer = λ c. l.fewer c }
lowest n (opened g ∷ slots) number h e =
    let f : ◌≡◌ {A = ℕ × PlainHandle} (n, g) (number, h) = cc in
    record { place = 0; is = omega (arith, ap (λ (x : ℕ × PlainHandle). x.0) f); fewer = λ c. omega arith }

fewer_by : (slots : List PlainSlot) (number : ℕ) (conv : ConvState) (l : Lowest 1 slots number) → open_count (with_slot slots number (closed conv)) < open_count slots
fewer_by slots number conv l =
    let e : suc l.place ≡ number = omega (arith, l.is) in
    subst (λ (i : ℕ). open_count (with_slot slots i (closed conv)) < open_count slots) e (l.fewer conv)

module _ (note : Notes) (status : ℕ) (slots next : List PlainSlot) (w v : PlainWorld) (number : ℕ) where
  fewer_of : (found : Option (ℕ × PlainHandle)) → first_open 1 slots ≡ found
      → ClosesAs (option_map (ended_at note status slots w) found) (Some number) slots w next v → open_count next < open_count slots
  fewer_of None e closes = absurd cc
  fewer_of (Some f) e closes =
      subst (λ (s : List PlainSlot). open_count s < open_count slots) (sym closes.1) (fewer_by slots f.0 f.1.room.conv (lowest 1 slots f.0 f.1 e))

  pub fewer_are_open : ClosesAs (closed_one note status slots w) (Some number) slots w next v → open_count next < open_count slots
  unfolding closed_one
  fewer_are_open closes = fewer_of (first_open 1 slots) refl closes
