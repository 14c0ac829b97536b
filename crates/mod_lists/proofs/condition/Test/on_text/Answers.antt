use Rattle.std.proofs.Common.{ap, ◌∙◌}
use Rattle.mod_lists.specs.Condition.{in_sense}
use Rattle.mod_lists.proofs.condition.Test.on_text.Goals as goal

pub returns-in-IsAmong : goal.returns-in-IsAmong
returns-in-IsAmong c = rw c.in-IsAmong.is (c.in_sense-in-IsAmong.ensures ∙ ap (in_sense c.in-IsAmong.sense) c.has_item.ensures)
