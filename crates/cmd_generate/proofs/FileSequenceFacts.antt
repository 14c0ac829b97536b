-- Files that are stored, one after another.
use Rattle.std.proofs.Common.{◌≡◌, ℕ, suc, ◌+◌, ◌<◌, Bool, true, false, cond, length, drop, get_or, Err, add-one, Some, None, List, [], ◌∷◌}
use Rattle.std.proofs.Common.{inl, inr, refl, sym, ap, subst, ◌∙◌}
use Rattle.std.proofs.Math.Seq.{drop-cons}
use Rattle.pam_base.specs.declared.fault.Refuse.{Refuse}
use Rattle.pam_base.specs.declared.fault.Refuse.TheVariants.{NoMemory, Named}
use Rattle.pam_outside.specs.Files.{VaultState, counted, refuses}
use Rattle.random_config.specs.declared.files.RandomFile.{RandomFile}
use Rattle.service_load.specs.declared.load_fault.LoadFault.{LoadFault}
use Rattle.cmd_generate.specs.Placing.{Placed, Places, PlacesSome, fault_of, placed, with_file}

module _ (file : RandomFile) (files : List RandomFile) (v t : VaultState) where
  abbrev stopped : Placed
  stopped = record { vault = counted v; fault = Some (fault_of file) }

  on_by : (b : Bool) → (cond b stopped (placed [] (with_file file v))).fault ≡ None → t ≡ (cond b stopped (placed [] (with_file file v))).vault
      → cond b stopped (placed files (with_file file v)) ≡ placed files t
  on_by true none is = absurd cc
  on_by false none is = ap (placed files) (sym is)

  -- after a file that was stored
  pub goes_on : (placed (file ∷ []) v).fault ≡ None → t ≡ (placed (file ∷ []) v).vault → placed (file ∷ files) v ≡ placed files t
  goes_on none is = on_by (refuses file.text v) none is

  stop_by : (fault : LoadFault) (b : Bool) → (cond b stopped (placed [] (with_file file v))).fault ≡ Some fault
      → cond b stopped (placed files (with_file file v)) ≡ cond b stopped (placed [] (with_file file v))
  stop_by fault true is = refl
  stop_by fault false is = absurd cc

  -- no call follows one that is refused
  pub stops : (fault : LoadFault) → (placed (file ∷ []) v).fault ≡ Some fault → placed (file ∷ files) v ≡ placed (file ∷ []) v
  stops fault is = stop_by fault (refuses file.text v) is

  some_by : (b : Bool) → refuses file.text v ≡ b → (cond b stopped (placed [] (with_file file v))).fault ≡ None
      → t ≡ (cond b stopped (placed [] (with_file file v))).vault
      → (u : VaultState) → PlacesSome files t u → PlacesSome (file ∷ files) v u
  some_by true e none is u some = absurd cc
  some_by false e none is u some = inr (e, inr (subst (λ (x : VaultState). PlacesSome files x u) is some))

  -- an allocation fails after a file was stored
  pub some_after : (placed (file ∷ []) v).fault ≡ None → t ≡ (placed (file ∷ []) v).vault → (u : VaultState) → PlacesSome files t u
      → PlacesSome (file ∷ files) v u
  some_after none is = some_by (refuses file.text v) refl none is

  some_first : PlacesSome (file ∷ []) v t → PlacesSome (file ∷ files) v t
  some_first (inl same) = inl same
  some_first (inr (runs, inl made)) = inr (runs, inl made)
  some_first (inr (runs, inr none)) = absurd none

  -- the files before this one are stored, and storing this one failed
  pub stops_at : (all : List RandomFile) (w : VaultState) → placed all w ≡ placed (file ∷ files) v
      → ((u : VaultState) → PlacesSome (file ∷ files) v u → PlacesSome all w u)
      → (refuse : Refuse LoadFault) → Places {T = Unit {0}} (Err refuse) (file ∷ []) v t → Places {T = Unit {0}} (Err refuse) all w t
  stops_at all w same some (Named fault) is = subst (λ (p : Placed). (p.fault ≡ Some fault) × (t ≡ p.vault)) (sym (same ∙ stops fault is.0)) is
  stops_at all w same some NoMemory is = some t (some_first is)

-- the next file
pub next_file : (files : List RandomFile) (i : ℕ) (file : RandomFile) → i < length files → file ≡ get_or files i file → drop i files ≡ file ∷ drop (i + 1) files
next_file files i file lt is = rw add-one (drop-cons files i file lt ∙ ap (λ (f : RandomFile). f ∷ drop (suc i) files) (sym is))
