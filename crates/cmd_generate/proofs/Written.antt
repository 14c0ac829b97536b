-- Generated files load if there was no file before, and the result of the authentication is written.
use Rattle.std.proofs.Common.{◌≡◌, ℕ, ◌≤◌, List, [], ◌∷◌, codes, Option, Some, None, Result, Ok, refl, sym, ap, ◌∙◌, subst}
use Rattle.pam_outside.specs.Files.{File, Locks, VaultState}
use Rattle.random_config.specs.Files.{random_files}
use Rattle.cmd_run.specs.dispatch_core.specs.Lines.{names_of}
use Rattle.cmd_run.specs.pam_handle.specs.Start.{new_handle, stacks_under, started_by}
use Rattle.cmd_run.specs.pam_library.specs.Slots.{PlainSlot, closed, opened}
use Rattle.cmd_run.specs.pam_library.specs.SlotStep.{filed_in, opened_by}
use Rattle.cmd_run.specs.pam_library.specs.Step.{stepped}
use Rattle.cmd_run.specs.pam_room.specs.State.{PlainWorld}
use Rattle.cmd_run.specs.State.{RunState, Setting, state_of}
use Rattle.service_load.specs.declared.load_fault.LoadFault.{LoadFault}
use Rattle.service_load.specs.FirstFault.{Counts, Stop}
use Rattle.service_load.specs.Load.{loaded}
use Rattle.cmd_generate.specs.declared.generating.Generated.TheVariants as generated
use Rattle.cmd_generate.specs.Generated.{after_files, found_by, from_root, generation}
use Rattle.cmd_generate.specs.Loads.{IsFree, LoadsAll}
use Rattle.cmd_generate.specs.Login.{after_start, called, refusal_in, start_call, state_in}
use Rattle.cmd_generate.specs.Placing.{Placed, placed, with_vault}
use Rattle.cmd_generate.proofs.Lengths.{all_short}
use Rattle.cmd_generate.proofs.FaultlessLoadFacts.{loads}
use Rattle.cmd_generate.proofs.StoredFileFacts.{all, stored, vault_with}

-- a file store without calls that are set to fail
as_it_is : (v : VaultState) (files : List File) (locks : Locks) → v.files ≡ files → v.locks ≡ locks → v.fails ≡ [] → v ≡ vault_with files locks v.calls
as_it_is v files locks is stays none =
    ap (λ (fs : List File). record { files = fs; locks = v.locks; calls = v.calls; fails = v.fails }) is
    ∙ ap (λ (ls : Locks). record { files = files; locks = ls; calls = v.calls; fails = v.fails }) stays
    ∙ ap (λ (fails : List ℕ). record { files = files; locks = locks; calls = v.calls; fails = fails }) none

pub loads_all : (seed lines : ℕ) (vault : VaultState) → lines ≤ 4096 → IsFree vault → LoadsAll seed lines vault
loads_all seed lines vault most free =
    let from : vault ≡ vault_with [] vault.locks vault.calls = as_it_is vault [] vault.locks free.files refl free.fails in
    let p : Placed = placed (random_files seed lines) (vault_with [] vault.locks vault.calls) in
    let s = stored (random_files seed lines) (all_short seed lines most) [] vault.locks vault.calls in
    let now : p.vault ≡ vault_with (all seed lines most) vault.locks p.vault.calls =
    as_it_is p.vault (all seed lines most) vault.locks s.files_are s.locks_are s.fails_are in
    let l = loads seed lines most vault.locks p.vault.calls in
    subst (LoadsAll seed lines) (sym from) (record {
      none = s.none;
      counts = l.0;
      no_fault = ap (λ (v : VaultState). loaded v (codes "/") (codes "gen")) now ∙ l.1;
    })

module _ (setting : Setting) where
  -- a start over a configuration without a fault isn't refused
  starts : (slots : List PlainSlot) (w : PlainWorld) (counts : Counts) → loaded w.vault w.process.root (codes "gen") ≡ Ok counts
      → refusal_in (called setting (state_of slots w) start_call).outcome.answer ≡ None
  unfolding called stepped
  starts [] w counts e = refl
  starts (closed conv ∷ slots) w counts e =
      let names = names_of setting.players in
      let stacks = stacks_under w.vault w.process.root (codes "gen") in
      ap (λ (r : Result Counts Stop).
      let s = started_by (new_handle 1 (codes "gen") (Some (codes "joe")) conv names) r stacks w in
      refusal_in (opened_by names conv (filed_in w) s.world s.answer).outcome.answer) e
  starts (opened h ∷ slots) w counts e = refl

  pub all_written : (seed lines : ℕ) (s : RunState) → lines ≤ 4096 → IsFree s.world.vault → (generation setting seed lines s).generated ≡ generated.Written
  unfolding generation
  all_written seed lines s most free =
      let p : Placed = placed (random_files seed lines) s.world.vault in
      let l = loads_all seed lines s.world.vault most free in
      let from : RunState = state_of s.slots (with_vault p.vault (from_root s.world)) in
      ap (λ (fault : Option LoadFault). found_by (after_files setting fault from).result) l.none
      ∙ ap (λ (fault : Option LoadFault). found_by (after_start setting fault (state_in (called setting from start_call))).result)
      (starts s.slots (with_vault p.vault (from_root s.world)) l.counts l.no_fault)
