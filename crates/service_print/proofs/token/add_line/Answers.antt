use Rattle.service_print.specs.Tokens.{ended}
use Rattle.service_print.proofs.AppendedTextFacts.{two}
use Rattle.service_print.proofs.token.add_line.Goals as goal

pub returns : goal.returns
unfolding ended
returns c = rw (← c.line_end.ensures) (two _ _ _ _ _ c.in_ok-extend_from_slice.ensures.items c.in_ok-extend_from_slice-2.ensures.items)
