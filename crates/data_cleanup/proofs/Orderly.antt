-- A cleanup log in order stays so when a list grows and when a transaction ends.
use Rattle.std.proofs.Common.{◌≡◌, ℕ, ◌<◌, ◌≤◌, List, ◌++◌, length, reverse, ap}
use Rattle.std.specs.List.{AllByRecursion}
use Rattle.data_cleanup.specs.Datum.{PlainDatum}
use Rattle.data_cleanup.specs.DataList.{PlainDataList}
use Rattle.data_cleanup.specs.Ledger.{AreNumbered, IsSound, PlainLedger}
use Rattle.data_cleanup.specs.Cleanup.{Notes, ledger_after, receipts_for}
use Rattle.data_cleanup.specs.Grows.{Grows, replacements}
use Rattle.data_cleanup.specs.Tidy.{Tidy}
use Rattle.data_cleanup.specs.Due.{Event}
use Rattle.data_cleanup.specs.declared.receipt.Filed.{Filed}
use Rattle.data_cleanup.specs.Latest.{AreLatest, IsLatest}
use Rattle.data_cleanup.specs.Modelled.{Lists, ModelsEvents}
use Rattle.data_cleanup.proofs.Every.{every, every-append, every-reverse}
use Rattle.data_cleanup.proofs.OnceMore.{fresh_numbers}
use Rattle.data_cleanup.proofs.FiledOnce.{replaced_later, swept_low, swept_within}
use Rattle.data_cleanup.proofs.LatestDataFacts.{held_latest}
use Rattle.data_cleanup.proofs.RecordOrderFacts.{all_tidy_more, end_tidy, growth_tidy, numbered_late}

pub tidy_on_growth : (note : Notes) (modules : ℕ) (old new : PlainDataList) (before after : PlainLedger)
    → Tidy note before → AreLatest before.births old → Grows note modules old before new after → IsSound after.births after.filed → AreNumbered 0 after.births
    → Tidy note after
tidy_on_growth note modules old new before after t latest g sound numbered =
    let grown : AreNumbered 0 (before.births ++ g.added) = rw g.births at numbered in
    let fresh = fresh_numbers before.births g.added grown in
    let late = numbered_late (length before.births) g.added fresh in
    let older : AllByRecursion (λ (d : PlainDatum). d.id < length before.births) old.live = every (IsLatest old.handle before.births) (λ (d : PlainDatum). d.id < length before.births) (λ d l. l.below) old.live latest in
    let low = swept_low note (length after.births) (replacements old.live g.added) g.receipts g.swept (replaced_later (length before.births) old.live g.added fresh older) in
    let within : AllByRecursion (λ (f : Filed). f.mark ≤ length (before.births ++ g.added)) g.receipts = rw (← g.births) (swept_within note (length after.births) (replacements old.live g.added) g.receipts g.swept) in
    record {
      numbered = numbered;
      once = sound.once;
      each = rw (g.filed, g.births) (every-append _ before.filed g.receipts
          (all_tidy_more note before.births g.added before.filed late t.each)
          (growth_tidy note old.handle (length after.births) before.births g.added old.live g.receipts grown late latest g.swept low within));
    }

pub tidy_on_end : (note : Notes) (status : ℕ) (list : PlainDataList) (before after : PlainLedger)
    → Tidy note before → AreLatest before.births list → after ≡ ledger_after note status (reverse list.live) before → IsSound after.births after.filed
    → Tidy note after
tidy_on_end note status list before after t latest is sound =
    let births : after.births ≡ before.births = ap (λ (l : PlainLedger). l.births) is in
    let filed : after.filed ≡ before.filed ++ receipts_for note status (length before.births) (reverse list.live) = ap (λ (l : PlainLedger). l.filed) is in
    record {
      numbered = rw births t.numbered;
      once = sound.once;
      each = rw (filed, births) (every-append _ before.filed (receipts_for note status (length before.births) (reverse list.live)) t.each
          (end_tidy note list.handle status before.births (reverse list.live) (every-reverse (IsLatest list.handle before.births) list.live latest)));
    }

pub stand_latest : (note : Notes) (limit handle : ℕ) (ledger : PlainLedger) (lists : Lists) (events : List Event)
    → ModelsEvents note limit ledger lists events → AreLatest ledger.births (lists handle)
stand_latest note limit handle ledger lists events s = rw (s.lists_are handle, s.births) (held_latest handle events (rw s.births at s.tidy.numbered))
