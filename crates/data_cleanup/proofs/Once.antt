-- The data of each record are due for cleanup once, or held once.
use Rattle.std.proofs.Common.{◌≡◌, ℕ, ◌+◌, ◌<◌, ltb, arith, if◌then◌else◌, List, [], ◌∷◌, ◌++◌, length, map, reverse, refl, sym, ap, subst, ◌∙◌, length-append}
use Rattle.std.specs.List.{AllByRecursion}
use Rattle.std.proofs.lemmas.List.{reverse-append, reverse-reverse}
use Rattle.data_cleanup.specs.Ledger.{AreNumbered}
use Rattle.data_cleanup.specs.Cleanup.{Notes, data_replace, times}
use Rattle.data_cleanup.specs.Due.{Event, birth, due, ends}
use Rattle.data_cleanup.specs.declared.datum.Birth.{Birth}
use Rattle.data_cleanup.specs.Holding.{data_held, receipts, replaced_data}
use Rattle.data_cleanup.specs.Modelled.{AreBelow, births_of, handle_of, times_filed, times_held}
use Rattle.data_cleanup.proofs.NewestFirstFacts.{law_births, law_end}
use Rattle.data_cleanup.proofs.DataCountFacts.{times-with_births, times-reverse, filed-append, filed-receipts, times-numbered, numbered-back, data_held-moves, none_held}
use Rattle.data_cleanup.proofs.Every.{every-front, every-back}
use Rattle.data_cleanup.proofs.LatestDataFacts.{births_of-births, births_of-end}
use Rattle.data_cleanup.proofs.OnceMore.{nothing_below}
use Rattle.data_cleanup.proofs.EventModelFacts.{data_held-births, data_held-other, data_held-ended, data_held-other_ended}

abbrev Once : Notes → ℕ → List Event → Type 0
Once note limit events = AreNumbered 0 (births_of events) → AreBelow limit events
    → (id : ℕ) → times_filed id (due note events) + times_held limit id (λ (h : ℕ). data_held h events) ≡ (if ltb id (length (births_of events)) then 1 else 0)

once_birth : (note : Notes) (limit : ℕ) (events : List Event) (b : Birth) → Once note limit events → Once note limit (events ++ birth b ∷ [])
once_birth note limit events b before numbered below id =
    let bs : List Birth = b ∷ [] in
    let are : births_of (events ++ map birth bs) ≡ births_of events ++ bs = births_of-births events bs in
    let all_numbered : AreNumbered 0 (births_of events ++ bs) = subst (AreNumbered 0) are numbered in
    let lt : b.handle < limit = (every-back (λ (e : Event). handle_of e < limit) events (birth b ∷ []) below).0 in
    let own : AllByRecursion (λ (c : Birth). c.handle ≡ b.handle) bs = (refl, tt) in
    let total = before (numbered-front 0 (births_of events) bs all_numbered) (every-front (λ (e : Event). handle_of e < limit) events (birth b ∷ []) below) id in
    let filed = ap (times_filed id) (law_births note events b.handle bs own) ∙ filed-append id (due note events) (receipts note data_replace (replaced_data (data_held b.handle events) bs)) in
    let paid = filed-receipts id note data_replace (replaced_data (data_held b.handle events) bs) in
    let moved = data_held-moves limit id b.handle (λ (h : ℕ). data_held h events) (λ (h : ℕ). data_held h (events ++ map birth bs)) lt (λ h e. data_held-other b.handle h events bs e own) in
    let live = ap (times id) (data_held-births b.handle events bs own) in
    let with_datum = times-with_births id (data_held b.handle events) bs in
    let e : 0 + length (births_of events) ≡ length (births_of events) = omega arith in
    let more = times-numbered id (length (births_of events)) bs (subst (λ (n : ℕ). AreNumbered n bs) e (numbered-back 0 (births_of events) bs all_numbered)) in
    rw (are, length-append (births_of events) bs) (omega (arith, total, filed, paid, moved, live, with_datum, more)) where
      numbered-front : (n : ℕ) (xs ys : List Birth) → AreNumbered n (xs ++ ys) → AreNumbered n xs
      numbered-front n [] ys is = tt
      numbered-front n (x ∷ xs) ys is = (is.0, numbered-front (n + 1) xs ys is.1)

once_end : (note : Notes) (limit : ℕ) (events : List Event) (handle status : ℕ) → Once note limit events → Once note limit (events ++ ends handle status ∷ [])
once_end note limit events handle status before numbered below id =
    let are : births_of (events ++ ends handle status ∷ []) ≡ births_of events = births_of-end events handle status in
    let lt : handle < limit = (every-back (λ (e : Event). handle_of e < limit) events (ends handle status ∷ []) below).0 in
    let total = before (subst (AreNumbered 0) are numbered) (every-front (λ (e : Event). handle_of e < limit) events (ends handle status ∷ []) below) id in
    let filed = ap (times_filed id) (law_end note events handle status) ∙ filed-append id (due note events) (receipts note status (reverse (data_held handle events))) in
    let paid = filed-receipts id note status (reverse (data_held handle events)) ∙ times-reverse id (data_held handle events) in
    let moved = data_held-moves limit id handle (λ (h : ℕ). data_held h events) (λ (h : ℕ). data_held h (events ++ ends handle status ∷ [])) lt (λ h e. data_held-other_ended handle status h events e) in
    let empty : times id (data_held handle (events ++ ends handle status ∷ [])) ≡ 0 = ap (times id) (data_held-ended handle status events) in
    rw are (omega (arith, total, filed, paid, moved, empty))

once_past : (note : Notes) (limit : ℕ) (past : List Event) → Once note limit (reverse past)
once_past note limit [] = λ numbered below id. nothing_below id (0 + times_held limit id (λ (h : ℕ). [])) (omega (arith, none_held limit id))
once_past note limit (birth b ∷ past) = subst (Once note limit) (sym (reverse-append (birth b ∷ []) past)) (once_birth note limit (reverse past) b (once_past note limit past))
once_past note limit (ends h s ∷ past) = subst (Once note limit) (sym (reverse-append (ends h s ∷ []) past)) (once_end note limit (reverse past) h s (once_past note limit past))

pub once_due : (note : Notes) (limit : ℕ) (events : List Event) → Once note limit events
once_due note limit events = subst (Once note limit) (reverse-reverse events) (once_past note limit (reverse events))
