-- The names of modules, by their numbers.
use Rattle.std.proofs.Common.{◌≡◌, ℕ, zero, suc, ◌<◌, List, [], ◌∷◌, Some, length, map, slice_get, get_or, arith, ap, sym, ◌∙◌}
use Rattle.pam_handle.specs.pam_room.specs.Module.{Breaks, Plays, Note, player_of}
use Rattle.pam_handle.specs.dispatch_core.specs.Lines.{names_of}

pub name_at : {M : Type 0} (label : M → List ℕ) (plays : M → Plays) (note : M → Note) (breaks : M → Breaks) (mods : List M) (i : ℕ) (m : M) (name : List ℕ)
    → m ≡ get_or mods i m → i < length (map (player_of label plays note breaks) mods) → name ≡ label m
    → slice_get (names_of (map (player_of label plays note breaks) mods)) i ≡ Some name
name_at label plays note breaks [] i m name is below same = absurd (omega arith)
name_at label plays note breaks (x ∷ xs) zero m name is below same = ap Some (ap label (sym is) ∙ sym same)
name_at label plays note breaks (x ∷ xs) (suc i) m name is below same = name_at label plays note breaks xs i m name is (omega arith) same
