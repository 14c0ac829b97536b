use Rattle.std.proofs.Common.{rules}
use Rattle.conf_lex.proofs.NulByteFacts.{join_before}
use Rattle.conf_lex.proofs.prefix.join_length.Goals as goal

pub returns-in_default : goal.returns-in_default
returns-in_default c = rw (join_before c.args.text.now) (search rules)
