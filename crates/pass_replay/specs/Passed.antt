-- The result of a pass and of a call, in the types of the calls (this project's own).
use Rattle.std.specs.Prelude.{List, Option, Some, None}
use Rattle.pam_base.specs.declared.code.Code.{Code}
use Rattle.pam_base.specs.declared.code.Code.TheVariants.{Incomplete}
use Rattle.handler_chain.specs.declared.opinion.Opinion.{Opinion}
use Rattle.handler_chain.specs.declared.seen.RecordedLine.{RecordedLine}
use Rattle.handler_chain.specs.Opinion.{verdict}
use Rattle.handler_chain.specs.Pass.{Visit, answers_of}
use Rattle.handler_chain.specs.Retell.{Telling}
use Rattle.dispatch_core.specs.Calls as calls
use Rattle.pass_replay.specs.declared.passed.Passed.{Passed}
use Rattle.pass_replay.specs.Kept.{kept_answers}
use Rattle.pass_replay.specs.Told.{telling_from}

abbrev pub passed_of : List (Option RecordedLine) → Passed → calls.Passed Telling
passed_of told p = record {
  code = p.code;
  kept = kept_answers p.kept;
  paused = p.paused;
  state = telling_from told p.next p.astray;
}

-- the code of a walk that ended in this state, or is incomplete
abbrev pub ended_code : Option Opinion → Code
ended_code None = Incomplete
ended_code (Some opinion) = verdict opinion

-- the codes to resume with, if it is incomplete
abbrev pub ended_paused : Option Opinion → List Visit → Option (List Code)
ended_paused None visits = Some (answers_of visits)
ended_paused (Some opinion) visits = None
