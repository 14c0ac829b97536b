-- After a call, too, each id is in one cleanup record or in one list.
use Rattle.std.proofs.Common.{◌≡◌, ℕ, ◌+◌, ◌<◌, false, eqb, ltb, arith, if◌then◌else◌, List, [], ◌++◌, length, reverse, refl, ap, subst, ◌∙◌, length-append}
use Rattle.std.proofs.lemmas.List.{map-append}
use Rattle.data_cleanup.specs.Datum.{PlainDatum}
use Rattle.data_cleanup.specs.Ledger.{AreNumbered, PlainLedger}
use Rattle.data_cleanup.specs.Cleanup.{Notes, data_replace, ledger_after, receipts_for, times}
use Rattle.data_cleanup.specs.Grows.{replacements}
use Rattle.data_cleanup.specs.declared.datum.Birth.{Birth}
use Rattle.data_cleanup.specs.Holding.{receipts, replaced_data}
use Rattle.data_cleanup.specs.Modelled.{EachOnce, receipts_in, times_filed}
use Rattle.data_cleanup.proofs.Lists.{GrowsLive}
use Rattle.data_cleanup.proofs.DataCountFacts.{times-with_births, times-reverse, filed-append, filed-receipts, times-numbered, numbered-back, data_held-moves}
use Rattle.data_cleanup.proofs.RecordOrderFacts.{swept_receipts, tidied_receipts}

pub nothing_below : (id n : ℕ) → n ≡ 0 → n ≡ (if ltb id 0 then 1 else 0)
nothing_below id n e = grind arith

-- the data that are added are numbered from those that were there
pub fresh_numbers : (before added : List Birth) → AreNumbered 0 (before ++ added) → AreNumbered (length before) added
fresh_numbers before added is = let e : 0 + length before ≡ length before = omega arith in subst (λ (n : ℕ). AreNumbered n added) e (numbered-back 0 before added is)

pub once_growth : (note : Notes) (modules limit handle : ℕ) (before after : PlainLedger) (lists next : ℕ → List PlainDatum)
    → EachOnce limit before lists → handle < limit
    → GrowsLive note modules handle (lists handle) before (next handle) after → ((h : ℕ) → eqb h handle ≡ false → next h ≡ lists h)
    → AreNumbered 0 after.births → EachOnce limit after next
once_growth note modules limit handle before after lists next once lt g same numbered id =
    let swept = swept_receipts note (length after.births) (replacements (lists handle) g.added) g.receipts g.swept in
    let fresh : AreNumbered (length before.births) g.added = fresh_numbers before.births g.added (rw g.births at numbered) in
    let total = once id in
    let filed : times_filed id (receipts_in after.filed) ≡ times_filed id (receipts_in before.filed) + times_filed id (receipts note data_replace (replaced_data (lists handle) g.added)) =
    ap (λ l. times_filed id (receipts_in l)) g.filed ∙ ap (times_filed id) (map-append _ before.filed g.receipts) ∙ filed-append id (receipts_in before.filed) (receipts_in g.receipts) ∙ rw swept refl in
    let paid = filed-receipts id note data_replace (replaced_data (lists handle) g.added) in
    let moved = data_held-moves limit id handle lists next lt same in
    let live = ap (times id) g.live in
    let with_datum = times-with_births id (lists handle) g.added in
    let more = times-numbered id (length before.births) g.added fresh in
    rw (g.births, length-append before.births g.added) (omega (arith, total, filed, paid, moved, live, with_datum, more))

pub once_end : (note : Notes) (limit handle status : ℕ) (before after : PlainLedger) (lists next : ℕ → List PlainDatum)
    → EachOnce limit before lists → handle < limit
    → after ≡ ledger_after note status (reverse (lists handle)) before → next handle ≡ [] → ((h : ℕ) → eqb h handle ≡ false → next h ≡ lists h)
    → EachOnce limit after next
once_end note limit handle status before after lists next once lt is none same id =
    let births : after.births ≡ before.births = ap (λ (l : PlainLedger). l.births) is in
    let file : after.filed ≡ before.filed ++ receipts_for note status (length before.births) (reverse (lists handle)) = ap (λ (l : PlainLedger). l.filed) is in
    let total = once id in
    let filed : times_filed id (receipts_in after.filed) ≡ times_filed id (receipts_in before.filed) + times_filed id (receipts note status (reverse (lists handle))) =
    ap (λ l. times_filed id (receipts_in l)) file ∙ ap (times_filed id) (map-append _ before.filed (receipts_for note status (length before.births) (reverse (lists handle))))
    ∙ filed-append id (receipts_in before.filed) (receipts_in (receipts_for note status (length before.births) (reverse (lists handle))))
    ∙ rw tidied_receipts refl in
    let paid = filed-receipts id note status (reverse (lists handle)) ∙ times-reverse id (lists handle) in
    let moved = data_held-moves limit id handle lists next lt same in
    let empty : times id (next handle) ≡ 0 = ap (times id) none in
    rw births (omega (arith, total, filed, paid, moved, empty))
