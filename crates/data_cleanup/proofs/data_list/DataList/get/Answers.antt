use Rattle.std.proofs.Common.{List, ℕ, [], ◌∷◌, Some, None, sym, ap, ◌∙◌}
use Rattle.data_cleanup.specs.DataList.{payloads_of}
use Rattle.data_cleanup.proofs.Named.{looked_up}
use Rattle.data_cleanup.proofs.data_list.DataList.get.Goals as goal

pub returns-in-Some : goal.returns-in-Some
returns-in-Some c =
    let one = looked_up c.args.name.now c.self.inside.live.entries (Some c.in-Some.datum.now) c.self.invariant c.in-Some.ensures.value in
    rw (← c.self.view_is) (ap payloads_of one ∙ ap (λ (x : List ℕ). x ∷ []) (sym c.payload.ensures))

pub returns-in-None : goal.returns-in-None
returns-in-None c = rw (← c.self.view_is) (looked_up c.args.name.now c.self.inside.live.entries None c.self.invariant c.in-None.ensures.value)
