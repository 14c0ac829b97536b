-- The state of a stack (libpam: `impression` and `status`): the result of its lines so far.
use Rattle.std.specs.Prelude.{Bool, true, false, ◌&&◌, not, if◌then◌else◌}
use Rattle.pam_base.specs.declared.code.Code.{Code}
use Rattle.pam_base.specs.declared.code.Code.TheVariants as codes
use Rattle.control_words.specs.declared.control.Action.{Action}
use Rattle.control_words.specs.declared.control.Action.TheVariants as actions
use Rattle.handler_chain.specs.declared.impression.Impression.{Impression}
use Rattle.handler_chain.specs.declared.impression.Impression.TheVariants.{Undefined, Positive, Negative}
use Rattle.handler_chain.specs.declared.opinion.Opinion.{Opinion}
use Rattle.handler_chain.specs.declared.pass_kind.PassKind.{PassKind}
use Rattle.handler_chain.specs.declared.pass_kind.PassKind.TheVariants as kinds

abbrev pub opinion_of : Impression → Code → Opinion
opinion_of impression status = record { impression = impression; status = status }

-- before the first line
abbrev pub opening : Opinion
opening = opinion_of Undefined codes.PermDenied

-- a jump that leaves its list
abbrev pub overrun : Opinion
overrun = opinion_of Negative codes.PermDenied

-- a good code decides if nothing or only a SUCCESS has decided before
abbrev pub good : Impression → Code → Code → Opinion
good Undefined status answer = opinion_of Positive answer
good Positive codes.Success answer = opinion_of Positive answer
good Positive status answer = opinion_of Positive status
good Negative status answer = opinion_of Negative status

abbrev pub is_ignore : Code → Bool
is_ignore codes.Ignore = true
is_ignore code = false

-- a present IGNORE changes nothing if the deciding code is another one
abbrev pub good_by : Code → Impression → Code → Code → Opinion
good_by deciding impression status answer = if is_ignore answer && not (is_ignore deciding)
    then opinion_of impression status else good impression status answer

-- a bad code decides if no bad one has decided before; an IGNORE counts as PERM_DENIED
abbrev pub bad : Impression → Code → Code → Opinion
bad Negative status answer = opinion_of Negative status
bad impression status codes.Ignore = opinion_of Negative codes.PermDenied
bad impression status answer = opinion_of Negative answer

-- a jump decides nothing in a first run, and acts as ok in the others
abbrev pub jumped : PassKind → Impression → Code → Code → Opinion
jumped kinds.Keep impression status answer = opinion_of impression status
jumped kind impression status answer = if is_ignore answer then opinion_of impression status
    else good impression status answer

-- the state after an action, at the present code and the deciding one
abbrev pub acted : PassKind → Action → Code → Code → Opinion → Opinion → Opinion
acted kind actions.Ignore answer deciding entry o = o
acted kind actions.Ok answer deciding entry o = good_by deciding o.impression o.status answer
acted kind actions.Done answer deciding entry o = good_by deciding o.impression o.status answer
acted kind actions.Bad answer deciding entry o = bad o.impression o.status answer
acted kind actions.Die answer deciding entry o = bad o.impression o.status answer
acted kind actions.Reset answer deciding entry o = entry
acted kind (actions.Jump n) answer deciding entry o = jumped kind o.impression o.status answer

-- the return code of a state: a SUCCESS counts only with a positive impression
abbrev pub verdict_at : Impression → Code → Code
verdict_at Positive status = status
verdict_at impression codes.Success = codes.PermDenied
verdict_at impression status = status

abbrev pub verdict : Opinion → Code
verdict o = verdict_at o.impression o.status
