use Rattle.std.proofs.Common.{◌≡◌, map, take}
use Rattle.service_load.proofs.entry.texts_of.Given as goal

abbrev pub invariant-loop-token : goal.invariant-loop-token
invariant-loop-token l = l.texts ≡ map (λ t. t.text) (take l.token-index l.tokens)
