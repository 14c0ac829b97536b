-- What the lines that were run did to the return code (pam.conf(5), "the control field").
use Rattle.std.specs.Prelude.{◌≡◌, ℕ, ◌-◌, Bool, true, false, List, [], ◌∷◌, ◌++◌, get_or}
use Rattle.pam_base.specs.declared.code.Code.{Code}
use Rattle.pam_base.specs.declared.code.Code.TheVariants as codes
use Rattle.control_words.specs.declared.control.Action.{Action}
use Rattle.control_words.specs.declared.control.Action.TheVariants as actions
use Rattle.control_words.specs.Control.{action_at}
use Rattle.control_words.specs.Stack.{Stack, none, line, sub}
use Rattle.handler_chain.specs.declared.pass_kind.PassKind.{PassKind}
use Rattle.handler_chain.specs.declared.pass_kind.PassKind.TheVariants as kinds
use Rattle.handler_chain.specs.Route.{KeptAnswers}
use Rattle.handler_chain.specs.Pass.{Visit, visit, decides}

-- the controls of all lines, in the order of their rule numbers
abbrev pub controls : Stack → List (List Action)
controls none = []
controls (line rule rest) = rule.control ∷ controls rest
controls (sub inner rest) = controls inner ++ controls rest

-- the control of the line with a rule number, of which the first is 1
abbrev pub control_of : Stack → ℕ → List Action
control_of stack place = get_or (controls stack) (place - 1) []

-- the code by which a line that was run acted: the cached one in a run by cached codes, else the
-- one that it returned
abbrev pub deciding_of : PassKind → KeptAnswers → Visit → Code
deciding_of kind kept v = decides kind kept v.place v.answer

-- the action that its control has for that code
abbrev pub action_of : PassKind → KeptAnswers → Stack → Visit → Action
action_of kind kept stack v = action_at (control_of stack v.place) (deciding_of kind kept v)

-- whether an action lets a SUCCESS count: a jump does, except in a first run
abbrev pub grants : PassKind → Action → Bool
grants kind actions.Ok = true
grants kind actions.Done = true
grants kinds.Keep (actions.Jump n) = false
grants kind (actions.Jump n) = true
grants kind action = false

-- whether an action denies
abbrev pub denies : Action → Bool
denies actions.Bad = true
denies actions.Die = true
denies action = false

abbrev pub resets : Action → Bool
resets actions.Reset = true
resets action = false

-- a line was run that returned SUCCESS, and the action by which it acted lets that count
pub record Granted (kind : PassKind) (acts : Visit → Action) (visits : List Visit) : Type 0 where
  pub before : List Visit
  pub place : ℕ
  pub after : List Visit
  pub split : visits ≡ before ++ visit place codes.Success ∷ after
  pub counts : grants kind (acts (visit place codes.Success)) ≡ true
