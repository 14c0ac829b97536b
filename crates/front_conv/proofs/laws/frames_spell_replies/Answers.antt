use Rattle.front_conv.proofs.ReplyBytesFacts.{only_spelled, texts_spelled}
use Rattle.front_conv.proofs.laws.frames_spell_replies.Goals as goal

pub returns-clause-texts : goal.returns-clause-texts
returns-clause-texts c = texts_spelled

pub returns-clause-only : goal.returns-clause-only
returns-clause-only c = only_spelled
