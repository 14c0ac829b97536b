-- The events of a list of calls.
use Rattle.std.proofs.Common.{◌≡◌, ℕ, List, [], ◌∷◌, ◌++◌, length, map, drop, refl, sym, ap, ◌∙◌, subst, append_assoc}
use Rattle.std.proofs.lemmas.List.{append-nil}
use Rattle.data_cleanup.specs.Ledger.{PlainLedger}
use Rattle.data_cleanup.specs.Cleanup.{Notes}
use Rattle.data_cleanup.specs.Due.{Event, birth}
use Rattle.data_cleanup.specs.declared.datum.Birth.{Birth}
use Rattle.data_cleanup.specs.Modelled.{Lists, ModelsEvents}
use Rattle.pam_library.specs.Calls.{Moved, MoveOn, births_added, events_of, last_ledger, last_lists}

past_end : (xs ys : List Birth) → drop (length xs) (xs ++ ys) ≡ ys
past_end [] ys = refl
past_end (x ∷ xs) ys = past_end xs ys

added_is : (before after : PlainLedger) (added : List Birth) → after.births ≡ before.births ++ added → births_added before after ≡ added
added_is before after added is = ap (drop (length before.births)) is ∙ past_end before.births added

pub stand_for_calls : (note : Notes) (limit : ℕ) (calls : List Moved) (ledger : PlainLedger) (lists : Lists) (events : List Event)
    → ModelsEvents note limit ledger lists events → MoveOn note limit ledger lists calls → ModelsEvents note limit (last_ledger ledger calls) (last_lists lists calls) (events ++ events_of ledger calls)
stand_for_calls note limit [] ledger lists events stand moves = subst (ModelsEvents note limit ledger lists) (sym (append-nil events)) stand
stand_for_calls note limit (m ∷ calls) ledger lists events stand moves =
    let mine : List Event = map birth (births_added ledger m.ledger) ++ m.ended in
    let e : map birth moves.0.added ++ m.ended ≡ mine = ap (λ (bs : List Birth). map birth bs ++ m.ended) (sym (added_is ledger m.ledger moves.0.added moves.0.births)) in
    let next : ModelsEvents note limit m.ledger m.lists (events ++ mine) = subst (λ (es : List Event). ModelsEvents note limit m.ledger m.lists (events ++ es)) e (moves.0.stand events stand) in
    subst (ModelsEvents note limit (last_ledger m.ledger calls) (last_lists m.lists calls)) (append_assoc events mine (events_of m.ledger calls)) (stand_for_calls note limit calls m.ledger m.lists (events ++ mine) next moves.1)
