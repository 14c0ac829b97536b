use Rattle.std.proofs.Common.{◌≡◌, ◌++◌, List, map, take, drop, string_bytes}
use Rattle.std.specs.List.{flat_map}
use Rattle.pam_library.specs.pam_room.specs.Module.{Player, player_of}
use Rattle.pam_library.specs.dispatch_core.specs.Lines.{names_of}
use Rattle.pam_library.specs.Plain.{gear_in}
use Rattle.report_step.specs.Cleaned.{filed_text}
use Rattle.report_step.proofs.cleaned.write_cleanups.Given as goal

abbrev pub invariant-loop-filed : goal.invariant-loop-filed
invariant-loop-filed g l =
    let players : List Player = map (player_of (λ b. (goal.Module-dyn g (b.vtable, b.value)).label b.value)
    (λ b. (goal.Module-dyn g (b.vtable, b.value)).plays b.value) (λ b. (goal.Module-dyn g (b.vtable, b.value)).note b.value)
    (λ b. (goal.Module-dyn g (b.vtable, b.value)).breaks b.value)) (gear_in l.library).mods.items in
    string_bytes l.text ≡ string_bytes l.fn.text ++ flat_map (filed_text l.handle (names_of players) l.births)
    (take l.filed-index (drop l.filed_from l.ledger.filed))
