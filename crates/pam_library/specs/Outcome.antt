-- What a step on a transaction reported and returned (this project's own).
use Rattle.std.specs.Prelude.{ℕ, List, [], Option, None}
use Rattle.conv_port.specs.declared.message.Message.{Message}
use Rattle.pam_handle.specs.pam_room.specs.declared.visits.Visit.{Visit}
use Rattle.pam_handle.specs.declared.wait.Wait.{Wait}
use Rattle.pam_library.specs.declared.outcome.Answer.{Answer}
use Rattle.pam_library.specs.declared.outcome.Outcome.{Outcome}

-- the messages of this step and the lines it ran, the number of cleanup records before it, the wait, the missing
-- modules, and the result
pub record PlainOutcome : Type 0 where
  pub said : List Message
  pub trail : List Visit
  pub filed_from : ℕ
  pub wait : Option Wait
  pub missing : List (List ℕ)
  pub answer : Answer

abbrev pub plain_outcome : Outcome → PlainOutcome
plain_outcome o = record {
  said = o.said;
  trail = o.trail.visits;
  filed_from = o.filed_from;
  wait = o.wait;
  missing = o.missing;
  answer = o.answer;
}

-- a result without anything to report
abbrev pub answers_only : ℕ → Answer → PlainOutcome
answers_only filed answer = record {
  said = [];
  trail = [];
  filed_from = filed;
  wait = None;
  missing = [];
  answer = answer;
}
