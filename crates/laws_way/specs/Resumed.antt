-- Calls that returned INCOMPLETE and are resumed, by the lines that they add to the trace, with
-- real objects, too (INCOMPLETE with a resumption is this project's own).
use Rattle.std.specs.Prelude.{◌≡◌, ◌≢◌, List, ◌++◌, None, Some}
use Rattle.pam_base.specs.declared.call.Func.{Func}
use Rattle.pam_base.specs.declared.call.Func.TheVariants.{ChAuthTok}
use Rattle.pam_base.specs.declared.code.Code.{Code}
use Rattle.pam_base.specs.declared.code.Code.TheVariants as codes
use Rattle.control_words.specs.Stack.{Stack}
use Rattle.handler_chain.specs.Opinion.{opening}
use Rattle.handler_chain.specs.Pass.{Visit, answers_of}
use Rattle.handler_chain.specs.Route.{KeptAnswers}
use Rattle.pam_room.specs.declared.visits.Visit.{Visit as Visited}
use Rattle.service_load.specs.Stacks.{Stacks}
use Rattle.dispatch_core.specs.Calls.{Held, answers_held, goes}
use Rattle.dispatch_core.specs.Failing.{visits_in}
use Rattle.dispatch_core.specs.Pending.{first_in, past_in}
use Rattle.pam_handle.specs.Passes.{kind_of}
use Rattle.pam_handle.specs.Trail.{CallsByTrail, as_traced}
use Rattle.stack_ways.specs.declared.way.Way.{Way}
use Rattle.stack_ways.specs.Laws.{ArePossible, granted}
use Rattle.stack_ways.specs.MayEnd.{CodesOf}
use Rattle.stack_ways.specs.Ways.{WaysOf}
use Rattle.laws_way.specs.Cached.{CachedBy, GoesAgain}
use Rattle.laws_way.specs.Calls.{GrantedOf, cached_for, stack_of_call}
use Rattle.laws_way.specs.Traced.{TracedChange}

-- this holds of the lines of a call: those of its earlier calls, with the codes that they returned
-- there, and those that it added to the trace
pub record WithEarlier (past : List Code) (added : List Visit) (Holds : List Visit → Type 0) : Type
    0 where
  pub early : List Visit
  pub left : List Code
  pub resumed : past ≡ answers_of early ++ left
  pub holds : Holds (early ++ added)

-- a call that begins or is resumed, and returns SUCCESS, takes a listed way
abbrev pub ResumedCallsGrantedBy : Type 0
ResumedCallsGrantedBy = (possible counts : CodesOf) (ways : List Way) (stacks : Stacks)
    (func : Func) (h new_held : Held) (before after : List Visited) → func ≢ ChAuthTok →
    first_in h.pending ≡ None → WaysOf possible counts (stack_of_call func stacks) 1 opening ways →
    (call : CallsByTrail (λ s. goes as_traced stacks func h s) before after codes.Success new_held) →
    WithEarlier (past_in h.pending) (visits_in call.more) (λ ran.
    GrantedOf possible counts (stack_of_call func stacks) ways (answers_held (cached_for func h))
    ran (kind_of func (cached_for func h)))

-- a change of token that begins, or is resumed in its first pass
abbrev pub ResumedChangesGrantedBy : Type 0
ResumedChangesGrantedBy = (possible counts : CodesOf) (ways : List Way) (stacks : Stacks)
    (h new_held : Held) (before after : List Visited) → first_in h.pending ≡ None →
    WaysOf possible counts stacks.password 1 opening ways →
    (call : CallsByTrail (λ s. goes as_traced stacks ChAuthTok h s) before after codes.Success
    new_held) →
    WithEarlier (past_in h.pending) (visits_in call.more) (λ ran. ArePossible possible ran →
    TracedChange counts stacks.password ways ran)

-- the first pass ran the first of these lines, and returned SUCCESS, and its codes are kept
pub record FirstIsKept (possible : CodesOf) (stack : Stack) (ran : List Visit) (kept : KeptAnswers)
    : Type 0 where
  pub first : List Visit
  pub later : List Visit
  pub ran_is : ran ≡ first ++ later
  pub by : CachedBy possible stack first granted kept

-- if it is left incomplete in its second pass, the codes of its first one are kept
abbrev pub LeftInUpdateByTrace : Type 0
LeftInUpdateByTrace = (possible : CodesOf) (stacks : Stacks) (h new_held : Held)
    (before after : List Visited) (code : Code) (kept : KeptAnswers) →
    first_in h.pending ≡ None → first_in new_held.pending ≡ Some kept →
    (call : CallsByTrail (λ s. goes as_traced stacks ChAuthTok h s) before after code new_held) →
    WithEarlier (past_in h.pending) (visits_in call.more) (λ ran. ArePossible possible ran →
    FirstIsKept possible stacks.password ran kept)

-- and resumed in its second pass, it uses them
abbrev pub ResumedUpdatesGrantedBy : Type 0
ResumedUpdatesGrantedBy = (possible counts : CodesOf) (ways : List Way) (stacks : Stacks)
    (first : List Visit) (kept : KeptAnswers) (h new_held : Held) (before after : List Visited) →
    first_in h.pending ≡ Some kept → WaysOf possible counts stacks.password 1 opening ways →
    CachedBy possible stacks.password first granted kept →
    (call : CallsByTrail (λ s. goes as_traced stacks ChAuthTok h s) before after codes.Success
    new_held) →
    WithEarlier (past_in h.pending) (visits_in call.more) (λ ran.
    GoesAgain counts stacks.password ways kept first ran granted)
