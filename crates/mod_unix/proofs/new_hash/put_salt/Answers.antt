use Rattle.std.proofs.Common.{◌++◌, ◌-◌, ◌+◌, ◌/◌, ap, ◌∙◌, List, ℕ}
use Rattle.sha_crypt.specs.Characters.{characters}
use Rattle.mod_unix.proofs.NumberCharacterFacts.{character_more}
use Rattle.mod_unix.proofs.new_hash.put_salt.Goals as goal

pub loop-i-preserved : goal.loop-i-preserved
loop-i-preserved c =
    ap (λ (x : List ℕ). x ++ characters (8 - (c.loop-i.i + 1)) (c.loop-i.left / 64)) c.in_ok-push.ensures.items
    ∙ character_more 8 c.loop-i.i c.loop-i.left c.loop-i.text.items _ c.loop-i-test.true c.loop-i.invariant
