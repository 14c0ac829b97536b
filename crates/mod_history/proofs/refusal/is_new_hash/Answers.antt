use Rattle.std.proofs.Common.{◌∙◌, sym}
use Rattle.mod_history.proofs.ComparedHashFacts.{known, present}
use Rattle.mod_history.proofs.refusal.is_new_hash.Goals as goal

pub returns-then-eq : goal.returns-then-eq
returns-then-eq c = sym (present c.args.token.now c.args.hash.now c.args.earlier.now c.args.other.now c.requires.earlier (sym c.eq.ensures ∙ c.if-eq.true))

pub returns-then-is_among : goal.returns-then-is_among
returns-then-is_among c = sym (known c.args.token.now c.args.hash.now c.args.earlier.now c.args.other.now c.requires.earlier (sym c.is_among.ensures ∙ c.if-is_among.true))
