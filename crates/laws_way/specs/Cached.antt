-- Runs by cached codes: pam_setcred(3) after an authentication, pam_close_session(3) after an
-- opened session, and the second pass of pam_chauthtok(3) (the statements are this project's own).
use Rattle.std.specs.Prelude.{◌≡◌, ◌⊎◌, true, false, List, ◌∷◌, ◌++◌}
use Rattle.pam_base.specs.declared.code.Code.{Code}
use Rattle.pam_base.specs.declared.code.Code.TheVariants as codes
use Rattle.control_words.specs.Stack.{Stack}
use Rattle.handler_chain.specs.declared.opinion.Opinion.{Opinion}
use Rattle.handler_chain.specs.declared.pass_kind.PassKind.TheVariants as kinds
use Rattle.handler_chain.specs.Opinion.{opening}
use Rattle.handler_chain.specs.Pass.{Answering, Visit, kept_in, pass_after}
use Rattle.handler_chain.specs.Route.{KeptAnswers}
use Rattle.handler_chain.specs.Walk.{code_of, is_negative}
use Rattle.laws_stack.specs.Deeds.{action_of, grants}
use Rattle.laws_stack.specs.Success.{NoneResets}
use Rattle.stack_ways.specs.declared.way.Way.{Way}
use Rattle.stack_ways.specs.Laws.{IsRunAgain}
use Rattle.stack_ways.specs.MayEnd.{CodesOf, StackMayEnd}
use Rattle.stack_ways.specs.Ways.{WaysOf}

-- the codes that a first run cached, which ran these lines, each with a possible code, and ended in
-- this state
pub record CachedBy (possible : CodesOf) (stack : Stack) (ran : List Visit) (end : Opinion)
    (kept : KeptAnswers) : Type 0 where
  pub ends : StackMayEnd possible stack ran end
  pub kept_is : kept ≡ kept_in ran

-- each line whose control lets its cached code count (`ok`, `done` or a jump), and after which no
-- line resets, returned SUCCESS or IGNORE
abbrev pub SayYesAgain : Stack → KeptAnswers → List Visit → Type 0
SayYesAgain stack kept ran = (before after : List Visit) (v : Visit) → ran ≡ before ++ v ∷ after →
    grants kinds.Follow (action_of kinds.Follow kept stack v) ≡ true →
    NoneResets (action_of kinds.Follow kept stack) after →
    (v.answer ≡ codes.Success) ⊎ (v.answer ≡ codes.Ignore)

-- the lines of the way by which the first run ended are run again, and say yes again; and that run
-- didn't end denied by a line
pub record GoesAgain (counts : CodesOf) (stack : Stack) (ways : List Way) (kept : KeptAnswers)
    (ran later : List Visit) (end : Opinion) : Type 0 where
  pub way : IsRunAgain counts ways ran later end
  pub undenied : is_negative end.impression ≡ false
  pub again : SayYesAgain stack kept later

-- a run by these codes returns SUCCESS only if it goes so
abbrev pub CachedGrantedBy : Type 0 → Type 0
CachedGrantedBy State = (possible counts : CodesOf) (stack : Stack) (ways : List Way)
    (ran : List Visit) (end : Opinion) (kept : KeptAnswers) (answering : Answering State)
    (past : List Code) (s : State) → WaysOf possible counts stack 1 opening ways →
    CachedBy possible stack ran end kept →
    let w = pass_after kinds.Follow kept answering stack past s in
    code_of w ≡ codes.Success → GoesAgain counts stack ways kept ran w.state.visits end
