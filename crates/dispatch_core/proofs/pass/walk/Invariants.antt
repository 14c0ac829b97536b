use Rattle.std.proofs.Common.{◌≡◌, ◌≤◌, ◌+◌, ◌*◌, ◌-◌, ◌&&◌, Bool, List, length, map, true, is_some, IsTrue}
use Rattle.control_words.specs.Stack.{lines_in}
use Rattle.frozen_chain.specs.Kept.{lines_kept}
use Rattle.pam_room.specs.State.{State, state_of}
use Rattle.pam_room.specs.Stays.{IsReady}
use Rattle.pam_room.specs.Module.{Player, notes_of, player_of}
use Rattle.pam_room.specs.Plain.{plain_process, plain_room, plain_transaction, plain_world}
use Rattle.handler_chain.specs.Pass.{Answering, Visit, pass_after, pass_state, serving}
use Rattle.dispatch_core.specs.AnyWorld.{GoesSoundly}
use Rattle.dispatch_core.specs.Index.{walk_on}
use Rattle.dispatch_core.specs.Lines.{answers_by}
use Rattle.dispatch_core.specs.Passes.{by_place}
use Rattle.dispatch_core.specs.Paths.{HasPaths}
use Rattle.dispatch_core.proofs.Progress.{Progress}
use Rattle.dispatch_core.proofs.PassProgressFacts.{Far}
use Rattle.dispatch_core.proofs.PassTraceFacts.{Traced}
use Rattle.dispatch_core.proofs.pass.walk.Given as goal

-- the walk from here on goes where the whole walk goes
abbrev pub invariant-loop-walker : goal.invariant-loop-walker
invariant-loop-walker g l =
    let players : List Player = map (player_of (λ b. (goal.Module-dyn g (b.vtable, b.value)).label b.value) (λ b. (goal.Module-dyn g (b.vtable, b.value)).plays b.value) (λ b. (goal.Module-dyn g (b.vtable, b.value)).note b.value) (λ b. (goal.Module-dyn g (b.vtable, b.value)).breaks b.value)) l.fn.mods in
    let answers : Answering State = answers_by players l.request.func l.request.flags in
    let now : State = state_of (plain_room (λ b. (goal.Conv-dyn g (b.vtable, b.value)).conv_holds b.value) l.room) (plain_world (λ b. (goal.Vault-dyn g (b.vtable, b.value)).vault_holds b.value) (λ b. (goal.Clock-dyn g (b.vtable, b.value)).clock_holds b.value) (λ b. (goal.Nap-dyn g (b.vtable, b.value)).nap_holds b.value) l.world) in
    let start : State = state_of (plain_room (λ b. (goal.Conv-dyn g (b.vtable, b.value)).conv_holds b.value) l.fn.room) (plain_world (λ b. (goal.Vault-dyn g (b.vtable, b.value)).vault_holds b.value) (λ b. (goal.Clock-dyn g (b.vtable, b.value)).clock_holds b.value) (λ b. (goal.Nap-dyn g (b.vtable, b.value)).nap_holds b.value) l.fn.world) in
    let room_now : Bool = (goal.Conv-dyn g (l.room.conv.vtable, l.room.conv.value)).conv_tells l.room.conv.value in
    let room_start : Bool = (goal.Conv-dyn g (l.fn.room.conv.vtable, l.fn.room.conv.value)).conv_tells l.fn.room.conv.value in
    let world_now : Bool = ((goal.Vault-dyn g (l.world.vault.vtable, l.world.vault.value)).vault_tells l.world.vault.value && (goal.Clock-dyn g (l.world.clock.vtable, l.world.clock.value)).clock_tells l.world.clock.value)
    && (goal.Nap-dyn g (l.world.nap.vtable, l.world.nap.value)).nap_tells l.world.nap.value in
    let world_start : Bool = ((goal.Vault-dyn g (l.fn.world.vault.vtable, l.fn.world.vault.value)).vault_tells l.fn.world.vault.value && (goal.Clock-dyn g (l.fn.world.clock.vtable, l.fn.world.clock.value)).clock_tells l.fn.world.clock.value)
    && (goal.Nap-dyn g (l.fn.world.nap.vtable, l.fn.world.nap.value)).nap_tells l.fn.world.nap.value in
    (visits : List Visit) × record {
      goes : IsTrue (room_start && world_start)
          → walk_on l.request.kind (serving l.request.kind (by_place l.follows) answers) l.fn.chain.nodes l.walker (pass_state l.memory.answers.past visits now)
          ≡ pass_after l.request.kind (by_place l.follows) answers l.fn.chain.nodes l.fn.memory.answers.past start;
      far : Far players l.request.func l.request.flags l.fn.chain.nodes l.request.kind (by_place l.follows) l.fn.memory.answers.past (room_start && world_start) start l.walker l.memory.answers.past now;
      traced : Traced l.request.kind (by_place l.follows) l.fn.chain.nodes l.fn.memory.answers.past (plain_transaction l.fn.room.transaction).trail l.walker l.memory.answers.past visits (plain_transaction l.room.transaction).trail;
      progress : Progress l.keeps l.memory.answers.taken l.walker.at visits;
      few : length l.memory.answers.taken ≤ l.walker.at;
      answers_fit : lines_in l.fn.chain.nodes ≤ length l.memory.answers.taken + length l.memory.answers.past + l.memory.answers.room;
      spare : lines_in l.fn.chain.nodes ≤ l.room.transaction.trail.spare + l.walker.at;
      paths : HasPaths l.fn.chain.nodes l.walker.at l.memory.paths;
      cells : is_some l.keeps ≡ true → lines_kept l.keeps ≡ lines_in l.fn.chain.nodes;
      held : is_some l.keeps ≡ is_some l.fn.keeps;
      room_tells : room_now ≡ room_start;
      world_tells : world_now ≡ world_start;
      nap : l.world.nap ≡ l.fn.world.nap;
      nodes : l.chain.nodes ≡ l.fn.chain.nodes;
      names : l.chain.names ≡ l.fn.chain.names;
      looks : l.chain.looks + 4 * (length l.fn.room.transaction.trail.visits + length l.memory.answers.past) ≤ l.fn.chain.looks + 4 * (length l.room.transaction.trail.visits + length l.fn.memory.answers.past);
      sound : GoesSoundly (notes_of players) (length l.fn.mods) (plain_transaction l.fn.room.transaction) (plain_transaction l.room.transaction) (plain_process l.fn.world.process) (plain_process l.world.process);
      ready : IsReady (length l.fn.mods) (plain_transaction l.room.transaction) (plain_process l.world.process);
    }

abbrev pub decreases-loop-walker : goal.decreases-loop-walker
decreases-loop-walker g l = lines_in l.fn.chain.nodes - l.walker.at
