-- A module that did what its definition says, and the sweep after it, are the line's run.
use Rattle.std.proofs.Common.{◌≡◌, ℕ, zero, suc, ◌<◌, List, [], ◌∷◌, ◌++◌, Some, length, map, get_or, slice_get, refl, sym, ap, arith}
use Rattle.pam_base.specs.declared.code.Code.{Code}
use Rattle.data_cleanup.specs.DataList.{PlainDataList}
use Rattle.data_cleanup.specs.Ledger.{PlainLedger}
use Rattle.data_cleanup.specs.Cleanup.{AwaitCleanup, swept_list, swept_ledger}
use Rattle.pam_room.specs.Call.{PlainCall}
use Rattle.pam_room.specs.State.{Scene, State, scene_in}
use Rattle.pam_room.specs.Module.{BreaksIn, Player, PlaysIn, notes_of}
use Rattle.pam_room.specs.Serve.{AnswersAs, LineBreaks, answer_or_incomplete, at_work, served}

pub player_at : {M : Type 0} (player : M → Player) (mods : List M) (i : ℕ) (m : M) → i < length mods → m ≡ get_or mods i m
    → slice_get (map player mods) i ≡ Some (player m)
player_at player [] i m lt is = absurd (omega (arith, lt))
player_at player (x ∷ xs) zero m lt is = ap (λ y. Some (player y)) (sym is)
player_at player (x ∷ xs) (suc i) m lt is = player_at player xs i m (omega (arith, lt)) is

-- a state with other data and another cleanup log
abbrev pub with_data : PlainDataList → PlainLedger → State → State
with_data datums ledger s = record {
  room = record s.room { transaction = record s.room.transaction { datums = datums } };
  world = record s.world { process = record s.world.process { ledger = ledger } };
}

pub served_so : {M : Type 0} (player : M → Player) (mods : List M) (number : ℕ) (m : M) (call : PlainCall) (s mid : State) (code : Code) (datums : PlainDataList) (ledger : PlainLedger)
    → number < length mods → m ≡ get_or mods number m
    → PlaysIn (player m).plays call (scene_in (at_work number s)) code (scene_in mid)
    → mid.world.nap ≡ s.world.nap
    → datums ≡ swept_list mid.room.transaction.datums
    → ledger ≡ swept_ledger (notes_of (map player mods)) mid.room.transaction.datums mid.world.process.ledger
    → AnswersAs (served (map player mods) (Some number) call s) (answer_or_incomplete mid.room.transaction.put_off code) (with_data datums ledger mid)
served_so player mods number m call s mid code datums ledger within is p nap d l =
    let at : slice_get (map player mods) number ≡ Some (player m) = player_at player mods number m within is in
    let room = ap (λ (x : Scene). x.room) p.scene_is in
    let vault = ap (λ (x : Scene). x.vault) p.scene_is in
    let clock = ap (λ (x : Scene). x.clock) p.scene_is in
    let process = ap (λ (x : Scene). x.process) p.scene_is in
    rw at (record {
      answer_is = rw (p.code_is, room) refl;
      state_is = rw (d, l, room, vault, clock, process, nap) refl;
    })

-- what a module left when an allocation failed is what the line left
pub broken_so : {M : Type 0} (player : M → Player) (mods : List M) (number : ℕ) (m : M) (call : PlainCall) (s end : State)
    → number < length mods → m ≡ get_or mods number m
    → BreaksIn (player m).breaks call (scene_in (at_work number s)) (scene_in end)
    → LineBreaks (map player mods) (Some number) call s end
broken_so player mods number m call s end within is left =
    let at : slice_get (map player mods) number ≡ Some (player m) = player_at player mods number m within is in
    rw at left

-- no replaced data wait for their cleanup, so all that await it are set
pub all_await : (modules : ℕ) (ledger : PlainLedger) (list : PlainDataList) → list.gone ≡ [] → AwaitCleanup modules ledger list.live
    → AwaitCleanup modules ledger (list.gone ++ list.live)
all_await modules ledger list none a = rw none a
