use Rattle.script_lang.proofs.Digits.{fits}
use Rattle.script_lang.proofs.number.value_in.Goals as goal

pub value_of-requires-clause-fits : goal.value_of-requires-clause-fits
value_of-requires-clause-fits c = fits _ _ _ c.requires.low c.if-digits-most.false c.requires.fits
