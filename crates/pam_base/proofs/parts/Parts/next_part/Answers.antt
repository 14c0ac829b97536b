use Rattle.pam_base.proofs.TextPartFacts.{first_part, first_part_left, last_part, last_part_left}
use Rattle.pam_base.proofs.parts.Parts.next_part.Goals as goal

pub returns-in-Some-clause-part : goal.returns-in-Some-clause-part
returns-in-Some-clause-part c = first_part _ _ _ _ c.self.view_is c.if-self.false _ c.in-Some.ensures

pub returns-in-Some-clause-left : goal.returns-in-Some-clause-left
returns-in-Some-clause-left c = first_part_left _ _ _ _ c.self.view_is c.if-self.false _ c.in-Some.ensures

pub returns-in-None-clause-part : goal.returns-in-None-clause-part
returns-in-None-clause-part c = last_part _ _ _ _ c.self.view_is c.if-self.false c.in-None.ensures

pub returns-in-None-clause-left : goal.returns-in-None-clause-left
returns-in-None-clause-left c = last_part_left _ _ _ _ c.self.view_is c.if-self.false c.in-None.ensures
