use Rattle.script_lang.proofs.Words.{after_next}
use Rattle.script_lang.proofs.cut.after_words.Goals as goal

pub loop-preserved : goal.loop-preserved
loop-preserved c = after_next _ _ _ c.loop.counter c.loop.invariant c.in_ok-rest.ensures
