use Rattle.std.proofs.Common.{◌≡◌, true, false, refl, sym, ap, ◌∙◌, arith}
use Rattle.mod_env.specs.Conf.{plain_setting, values_of}
use Rattle.mod_env.proofs.FoundSoFarFacts.{setting_taken, settings_break, settings_end, settings_out, value_breaks}
use Rattle.mod_env.proofs.conf.values_of.Goals as goal

pub loop-left-preserved : goal.loop-left-preserved
loop-left-preserved c =
    rw c.with_value-values.ensures (setting_taken _ _ _ _ _ _ _ _ _ c.loop-left-test.true refl (sym c.next_setting.ensures ∙ ap plain_setting c.in-One.is) (sym c.in_ok-pieces-in-One.ensures ∙ c.in-Some.is) c.loop-left.invariant)

pub returns-in-Ended : goal.returns-in-Ended
unfolding values_of
returns-in-Ended c = settings_end _ _ _ _ c.loop-left-test.true (sym c.next_setting.ensures ∙ ap plain_setting c.in-Ended.is) c.loop-left.invariant

pub returns-in-Broken : goal.returns-in-Broken
unfolding values_of
returns-in-Broken c = settings_break _ _ _ _ c.loop-left-test.true (sym c.next_setting.ensures ∙ ap plain_setting c.in-Broken.is) c.loop-left.invariant

pub returns-in-None : goal.returns-in-None
unfolding values_of
returns-in-None c =
    value_breaks _ _ _ _ _ _ _ c.loop-left-test.true (sym c.next_setting.ensures ∙ ap plain_setting c.in-One.is) (sym c.in_ok-pieces-in-One.ensures ∙ c.in-None.is) c.loop-left.invariant

pub returns-then-is_empty : goal.returns-then-is_empty
unfolding values_of
returns-then-is_empty c = let out : c.loop-left.left ≡ 0 = omega arith in settings_out _ _ _ _ true out (rw c.after_white.ensures at c.if-is_empty.ensures) c.loop-left.invariant

pub returns-else-is_empty : goal.returns-else-is_empty
unfolding values_of
returns-else-is_empty c = let out : c.loop-left.left ≡ 0 = omega arith in settings_out _ _ _ _ false out (rw c.after_white.ensures at c.if-is_empty.ensures) c.loop-left.invariant
