-- Each line that a library's call runs is added to the trace.
use Rattle.std.proofs.Common.{◌≡◌, ℕ, List, [], ◌∷◌, ◌++◌, map, Option, Some, None, slice_get, refl, ◌∙◌, ap}
use Rattle.std.proofs.lemmas.List.{map-append}
use Rattle.handler_chain.specs.FlatLines.{module_of}
use Rattle.dispatch_core.specs.Lines.{names_of, call_of}
use Rattle.pam_room.specs.Call.{PlainCall}
use Rattle.pam_room.specs.Module.{Player}
use Rattle.pam_room.specs.State.{State}
use Rattle.pam_room.specs.Serve.{served, served_by}
use Rattle.pam_room.specs.declared.visits.Visit.{Visit}
use Rattle.session_audit.specs.Laws.{Trails}
use Rattle.pam_handle.specs.StackCalls.{flags_seen, asking_by}
use Rattle.laws_audit.specs.Calls.{seen_of, trail_in}

served_by_trail : (players : List Player) (player : Option Player) (number : ℕ) (call : PlainCall) (s : State)
    → (served_by players player number call s).state.room.transaction.trail ≡ s.room.transaction.trail
served_by_trail players (Some player) number call s = refl
served_by_trail players None number call s = refl

served_trail : (players : List Player) (number : Option ℕ) (call : PlainCall) (s : State)
    → (served players number call s).state.room.transaction.trail ≡ s.room.transaction.trail
served_trail players (Some number) call s = served_by_trail players (slice_get players number) number call s
served_trail players None call s = refl

pub trails : (players : List Player) (flags : ℕ) → Trails State trail_in (asking_by players flags)
trails players flags func second rule place s =
    let added : List Visit = record { place = place; path = rule.path; answer = (asking_by players flags func second rule place s).answer } ∷ [] in
    map-append seen_of (served players (module_of (names_of players) rule) (call_of func (flags_seen func second flags) rule)
    s).state.room.transaction.trail added
    ∙ ap (λ (vs : List Visit). map seen_of vs ++ map seen_of added) (served_trail players (module_of (names_of players) rule)
    (call_of func (flags_seen func second flags) rule) s)
