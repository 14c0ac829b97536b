-- The cleanups that are due after the sets and ends of a run (pam_set_data(3), pam_end(3); the order is this project's
-- own).
use Rattle.std.specs.Prelude.{ℕ, nat_eq, if◌then◌else◌, List, [], ◌∷◌, ◌++◌, map}
use Rattle.std.specs.List.{list_any, flat_map}
use Rattle.std.specs.Str.{bytes_eq}
use Rattle.data_cleanup.specs.Cleanup.{Notes, data_replace}
use Rattle.data_cleanup.specs.declared.datum.Birth.{Birth}
use Rattle.data_cleanup.specs.declared.receipt.Receipt.{Receipt}

-- data are set; a transaction ends with a status
pub data Event : Type 0 where
  birth : Birth → Event
  ends : ℕ → ℕ → Event

-- In a list of past events, the newest comes first.

-- the sets of a transaction since its last end
abbrev pub since_end : ℕ → List Event → List Birth
since_end handle [] = []
since_end handle (birth b ∷ past) = if nat_eq b.handle handle then b ∷ since_end handle past
    else since_end handle past
since_end handle (ends h status ∷ past) = if nat_eq h handle then [] else since_end handle past

-- the latest set of a name: a list of at most one
abbrev pub latest : List ℕ → List Birth → List Birth
latest name [] = []
latest name (b ∷ before) = if bytes_eq b.name name then b ∷ [] else latest name before

-- the first set of each name, the last name first
abbrev pub first_of_each : List Birth → List Birth
first_of_each [] = []
first_of_each (b ∷ before) = if list_any (λ (c : Birth). bytes_eq c.name b.name) before
    then first_of_each before else b ∷ first_of_each before

-- the sets that no later one of their name replaced, ordered by the first set of their name, the last first
abbrev pub unreplaced_births : List Birth → List Birth
unreplaced_births births =
    flat_map (λ (first : Birth). latest first.name births) (first_of_each births)

abbrev pub receipt_of : Notes → ℕ → Birth → Receipt
receipt_of note status b = record {
  id = b.id;
  status = status;
  note = note b.owner b.payload status;
}

-- the cleanups due at an event, given the events before it: at a set that of the data it replaces, at an end that of
-- all data that are set
abbrev pub made_due : Notes → List Event → Event → List Receipt
made_due note past (birth b) =
    map (receipt_of note data_replace) (latest b.name (since_end b.handle past))
made_due note past (ends h status) =
    map (receipt_of note status) (unreplaced_births (since_end h past))

abbrev pub due_after : Notes → List Event → List Event → List Receipt
due_after note past [] = []
due_after note past (e ∷ events) = made_due note past e ++ due_after note (e ∷ past) events

-- the cleanups due at each event, in order
abbrev pub due : Notes → List Event → List Receipt
due note events = due_after note [] events
