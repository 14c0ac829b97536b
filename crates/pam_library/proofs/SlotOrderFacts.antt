-- Sound slots and a sound cleanup log are in order.
use Rattle.std.proofs.Common.{◌≡◌, ℕ, zero, suc, ◌+◌, ◌<◌, ◌≤◌, List, [], ◌∷◌, length, map, Some, None, slice_get, refl, sym, ap, ◌∙◌, subst, arith}
use Rattle.std.specs.List.{AllByRecursion}
use Rattle.conv_port.specs.Conv.{ConvState}
use Rattle.data_cleanup.specs.Datum.{PlainDatum}
use Rattle.data_cleanup.specs.DataList.{PlainDataList, birth_of, datum_of}
use Rattle.data_cleanup.specs.Ledger.{AreNumbered, IsSound as LedgerIsSound, PlainLedger}
use Rattle.data_cleanup.specs.declared.datum.Birth.{Birth}
use Rattle.data_cleanup.specs.declared.receipt.Filed.{Filed}
use Rattle.data_cleanup.specs.Kept.{IsOfHandle}
use Rattle.pam_library.specs.Alike.{AreInOrder, IsOfBirth, IsRecorded, IsRecordedAt}
use Rattle.pam_library.specs.Slots.{PlainSlot, closed, data_in, lists_of, opened, slot_at}
use Rattle.pam_library.specs.Sound.{IsSound}

-- ---- sets numbered by their positions

record Found (P : Birth → Type 0) (births : List Birth) (i id : ℕ) : Type 0 where
  birth : Birth
  there : slice_get births i ≡ Some birth
  id_is : birth.id ≡ id
  holds : P birth

found : (P : Birth → Type 0) (births : List Birth) (from i : ℕ) → AreNumbered from births → AllByRecursion P births → i < length births
    → Found P births i (from + i)
found P [] from i numbered all lt = absurd (omega arith)
found P (b ∷ births) from zero numbered all lt = record { birth = b; there = refl; id_is = omega (arith, numbered.0); holds = all.0 }
found P (b ∷ births) from (suc i) numbered all lt =
    let f : Found P births i (from + 1 + i) = found P births (from + 1) i numbered.1 all.1 (omega arith) in
    record { birth = f.birth; there = f.there; id_is = omega (arith, f.id_is); holds = f.holds }

abbrev Known : ℕ → PlainDatum → Birth → Type 0
Known number d b = b.id ≡ d.id → (datum_of b ≡ d) × (b.handle ≡ number)

recorded : (modules number : ℕ) (births : List Birth) (d : PlainDatum) → AreNumbered 0 births → IsOfHandle modules number births d → IsRecorded number births d
recorded modules number births d numbered known =
    let f : Found (Known number d) births d.id (0 + d.id) = found (Known number d) births 0 d.id numbered known.is known.below in
    let id_is : f.birth.id ≡ d.id = omega (arith, f.id_is) in
    let both : (datum_of f.birth ≡ d) × (f.birth.handle ≡ number) = f.holds id_is in
    let datum : datum_of f.birth ≡ d = both.0 in
    let handle : f.birth.handle ≡ number = both.1 in
    let whole : f.birth ≡ birth_of d.id number d.owner d.name d.payload = λ i. birth_of (datum i).id (handle i) (datum i).owner (datum i).name (datum i).payload in
    f.there ∙ ap Some whole

all_recorded : (modules number : ℕ) (births : List Birth) (ds : List PlainDatum) → AreNumbered 0 births
    → AllByRecursion (IsOfHandle modules number births) ds → AllByRecursion (IsRecorded number births) ds
all_recorded modules number births [] numbered known = tt
all_recorded modules number births (d ∷ ds) numbered known = (recorded modules number births d numbered known.0, all_recorded modules number births ds numbered known.1)

-- ---- cleanup records of sets in the log

each_born : (births : List Birth) → AllByRecursion (λ (b : Birth). Unit {0}) births
each_born [] = tt
each_born (b ∷ births) = (tt, each_born births)

of_births : (births : List Birth) (fs : List Filed) → AreNumbered 0 births → AllByRecursion (λ (f : Filed). f.receipt.id < f.mark) fs
    → AllByRecursion (λ (f : Filed). f.mark ≤ length births) fs → AllByRecursion (IsOfBirth births) fs
of_births births [] numbered born marks = tt
of_births births (f ∷ fs) numbered born marks =
    let below : f.receipt.id < length births = omega (arith, born.0, marks.0) in
    let b : Found (λ (b : Birth). Unit {0}) births f.receipt.id (0 + f.receipt.id) = found (λ (b : Birth). Unit {0}) births 0 f.receipt.id numbered (each_born births) below in
    ((b.birth, b.there), of_births births fs numbered born.1 marks.1)

-- ---- all slots

module _ (names : List (List ℕ)) (modules : ℕ) (slots : List PlainSlot) (ledger : PlainLedger) where
  at_place : (number : ℕ) (slot : PlainSlot) → slot_at slots number ≡ Some slot → IsSound names modules slots ledger → AreNumbered 0 ledger.births
      → IsRecordedAt number ledger.births slot
  at_place number (closed conv) there sound numbered = tt
  at_place number (opened h) there sound numbered =
      let list : lists_of slots number ≡ h.room.transaction.datums = ap (data_in number) there in
      let gone : h.room.transaction.datums.gone ≡ [] = ap (λ (l : PlainDataList). l.gone) (sym list) ∙ ap (λ (l : PlainDataList). l.gone) (sound.held.clean number) in
      let live : AllByRecursion (IsRecorded number ledger.births) (lists_of slots number).live = all_recorded modules number ledger.births (lists_of slots number).live numbered (sound.held.each number) in
      record {
        handle_is = (sound.placed.each number (opened h) there).handle;
        live = subst (λ (l : PlainDataList). AllByRecursion (IsRecorded number ledger.births) l.live) list live;
        gone = subst (AllByRecursion (IsRecorded number ledger.births)) (sym gone) tt;
      }

  pub sound_in_order : IsSound names modules slots ledger → AreNumbered 0 ledger.births → LedgerIsSound ledger.births ledger.filed → AreInOrder slots ledger
  sound_in_order sound numbered filed = record {
    filed = of_births ledger.births ledger.filed numbered filed.born filed.marks;
    each = λ number slot there. at_place number slot there sound numbered;
  }

-- ---- closed slots

closed_at : (convs : List ConvState) (number i : ℕ) (slot : PlainSlot) → slice_get (map closed convs) i ≡ Some slot → IsRecordedAt number [] slot
closed_at [] number i slot there = absurd (cc)
closed_at (c ∷ convs) number zero slot there =
    let is : closed c ≡ slot = λ i. elim (there i) [ Some x ↦ x | None ↦ closed c ] in
    subst (IsRecordedAt number []) is tt
closed_at (c ∷ convs) number (suc i) slot there = closed_at convs number i slot there

closed_place : (convs : List ConvState) (number : ℕ) (slot : PlainSlot) → slot_at (map closed convs) number ≡ Some slot → IsRecordedAt number [] slot
closed_place convs zero slot there = absurd (cc)
closed_place convs (suc i) slot there = closed_at convs (suc i) i slot there

pub closed_in_order : (convs : List ConvState) → AreInOrder (map closed convs) (record { births = []; filed = [] })
closed_in_order convs = record { filed = tt; each = closed_place convs }
