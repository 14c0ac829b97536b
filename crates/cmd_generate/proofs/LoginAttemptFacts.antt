-- A login after the files.
use Rattle.std.proofs.Common.{◌≡◌, ℕ, Bool, true, false, ◌&&◌, List, Option, Some, None, Result, Ok, Err, inl, inr, refl, sym, ap, ◌∙◌, subst}
use Rattle.pam_base.specs.declared.fault.Refuse.{Refuse}
use Rattle.pam_base.specs.declared.fault.Refuse.TheVariants.{NoMemory, Named}
use Rattle.pam_outside.specs.Files.{VaultState}
use Rattle.cmd_run.specs.pam_room.specs.State.{PlainWorld}
use Rattle.service_load.specs.declared.load_fault.LoadFault.{LoadFault}
use Rattle.cmd_run.specs.State.{RunState, Setting, state_of}
use Rattle.cmd_generate.specs.declared.login.Login.{Login}
use Rattle.random_config.specs.Files.{random_files}
use Rattle.random_config.specs.declared.files.RandomFile.{RandomFile}
use Rattle.cmd_generate.specs.Generated.{AttemptStops, attempted, after_files, from_root}
use Rattle.cmd_generate.specs.Login.{Attempt, ComesTo, LoginStops, logged_in}
use Rattle.cmd_generate.specs.Placing.{Placed, Places, PlacesSome, placed, with_vault}

module _ (setting : Setting) (p : Placed) (s : RunState) (w : PlainWorld) (is : w ≡ with_vault p.vault (from_root s.world)) where
  -- all files were stored
  past_all : (result : Result Login (Refuse LoadFault)) (u : RunState) → p.fault ≡ None
      → ComesTo result (logged_in setting (state_of s.slots w)) (LoginStops setting (state_of s.slots w)) u
      → ComesTo result (after_files setting p.fault (state_of s.slots (with_vault p.vault (from_root s.world))))
      (LoginStops setting (state_of s.slots (with_vault p.vault (from_root s.world)))) u
  past_all result u none comes =
      subst (λ (o : Option LoadFault). ComesTo result (after_files setting o (state_of s.slots (with_vault p.vault (from_root s.world))))
      (LoginStops setting (state_of s.slots (with_vault p.vault (from_root s.world)))) u) (sym none)
      (subst (λ (v : PlainWorld). ComesTo result (logged_in setting (state_of s.slots v)) (LoginStops setting (state_of s.slots v)) u) is comes)

  -- one wasn't stored
  after_fault : (Stops : RunState → Type 0) (fault : LoadFault) → p.fault ≡ Some fault
      → ComesTo (Err (Named fault)) (after_files setting p.fault (state_of s.slots (with_vault p.vault (from_root s.world)))) Stops (state_of s.slots w)
  after_fault Stops fault some =
      subst (λ (o : Option LoadFault). ComesTo (Err (Named fault)) (after_files setting o (state_of s.slots (with_vault p.vault (from_root s.world)))) Stops
      (state_of s.slots w)) (sym some)
      (refl, ap (state_of s.slots) is)

-- the same with more states that it may leave
more_stops : (Stops Others : RunState → Type 0) (result : Result Login (Refuse LoadFault)) (a : Attempt) (u : RunState) → (Stops u → Others u)
    → ComesTo result a Stops u → ComesTo result a Others u
more_stops Stops Others (Ok login) a u more comes = comes
more_stops Stops Others (Err (Named fault)) a u more comes = comes
more_stops Stops Others (Err NoMemory) a u more comes = more comes

-- the generated files are stored, or one of them is refused
module _ (setting : Setting) (seed lines : ℕ) (s : RunState) (files : List RandomFile) (m w : PlainWorld) (v : VaultState)
    (random : files ≡ random_files seed lines) (root : m ≡ from_root s.world) (rest : w ≡ with_vault v m) where
  same : placed files m.vault ≡ placed (random_files seed lines) s.world.vault
  same = ap (λ (f : List RandomFile). placed f m.vault) random ∙ ap (λ (x : PlainWorld). placed (random_files seed lines) x.vault) root

  world_is : v ≡ (placed files m.vault).vault → w ≡ with_vault (placed (random_files seed lines) s.world.vault).vault (from_root s.world)
  world_is is = rest ∙ ap (λ (x : VaultState). with_vault x m) (is ∙ ap (λ (q : Placed). q.vault) same)
      ∙ ap (with_vault (placed (random_files seed lines) s.world.vault).vault) root

  pub all_placed : (done : Unit {0}) (result : Result Login (Refuse LoadFault)) (u : RunState) → Places {T = Unit {0}} (Ok done) files m.vault v
      → ComesTo result (logged_in setting (state_of s.slots w)) (LoginStops setting (state_of s.slots w)) u
      → ComesTo result (attempted setting seed lines s) (AttemptStops setting seed lines s) u
  all_placed done result u places comes =
      let none = ap (λ (q : Placed). q.fault) (sym same) ∙ places.0 in
      more_stops (LoginStops setting (state_of s.slots (with_vault (placed (random_files seed lines) s.world.vault).vault (from_root s.world))))
      (AttemptStops setting seed lines s)
      result (attempted setting seed lines s) u (λ stops. inr (inr (inr (none, stops))))
      (past_all setting (placed (random_files seed lines) s.world.vault) s w (world_is places.1) result u none comes)

  some_placed : PlacesSome files m.vault v → PlacesSome (random_files seed lines) s.world.vault v
  some_placed some =
      subst (λ (x : PlainWorld). PlacesSome (random_files seed lines) x.vault v) root
      (subst (λ (f : List RandomFile). PlacesSome f m.vault v) random some)

  pub not_placed : (refuse : Refuse LoadFault) → Places {T = Unit {0}} (Err refuse) files m.vault v
      → ComesTo (Err refuse) (attempted setting seed lines s) (AttemptStops setting seed lines s) (state_of s.slots w)
  not_placed (Named fault) places =
      after_fault setting (placed (random_files seed lines) s.world.vault) s w (world_is places.1) (AttemptStops setting seed lines s) fault
      (ap (λ (q : Placed). q.fault) (sym same) ∙ places.0)
  not_placed NoMemory places = inr (inr (inl (v, some_placed places, ap (state_of s.slots) (rest ∙ ap (with_vault v) root))))

-- nothing was stored yet
pub not_begun : (setting : Setting) (seed lines : ℕ) (s : RunState) (w : PlainWorld) → w ≡ s.world → AttemptStops setting seed lines s (state_of s.slots w)
not_begun setting seed lines s w same = inl (ap (state_of s.slots) same)

pub not_generated : (setting : Setting) (seed lines : ℕ) (s : RunState) (w : PlainWorld) → w ≡ from_root s.world
    → AttemptStops setting seed lines s (state_of s.slots w)
not_generated setting seed lines s w root = inr (inl (ap (state_of s.slots) root))

-- ---- which objects are modelled

pub vault_of : (l a b n : Bool) → (l && ((a && b) && n)) ≡ true → a ≡ true
vault_of true true b n told = refl
vault_of true false b n told = absurd cc
vault_of false a b n told = absurd cc
