-- A call's text ends with that of its last run.
use Rattle.std.proofs.Common.{◌≡◌, ℕ, ◌&&◌, Bool, true, false, true≢false, not, if◌then◌else◌, eqb-true, List, [], ◌++◌, get_or, Option}
use Rattle.std.proofs.Common.{Some, None, refl, sym, ◌∙◌, ap, subst, append-nil}
use Rattle.std.proofs.lemmas.Bool.{and_parts}
use Rattle.pam_base.specs.declared.code.Code.{Code}
use Rattle.pam_base.specs.declared.code.Code.TheVariants as codes
use Rattle.pam_base.specs.Code.{all_codes, number_of}
use Rattle.pam_base.specs.declared.call.Func.{Func}
use Rattle.pam_base.specs.declared.call.Func.TheVariants.{Authenticate, SetCred, AcctMgmt, OpenSession, CloseSession, ChAuthTok}
use Rattle.control_words.specs.Stack.{Stack}
use Rattle.service_load.specs.declared.rule_type.RuleType.{RuleType}
use Rattle.service_load.specs.declared.rule_type.RuleType.TheVariants.{Auth, Account, Password, Session}
use Rattle.service_load.specs.Stacks.{Stacks}
use Rattle.handler_chain.specs.declared.pass_kind.PassKind.{PassKind}
use Rattle.handler_chain.specs.declared.pass_kind.PassKind.TheVariants.{Keep, Follow}
use Rattle.handler_chain.specs.Pass.{pass_after}
use Rattle.handler_chain.specs.Retell.{Telling, replaying, telling}
use Rattle.handler_chain.specs.Route.{KeptAnswers}
use Rattle.handler_chain.specs.Walk.{code_of}
use Rattle.pass_replay.specs.dispatch_core.specs.Calls.{Held, Went, answers_held, after_check, call_after, change, first_pass, following}
use Rattle.pass_replay.specs.dispatch_core.specs.Calls.{goes, held_past, second_pass}
use Rattle.pass_replay.specs.dispatch_core.specs.Pending.{first_in, is_other_pending, past_in}
use Rattle.pass_replay.specs.Replay.{as_told}
use Rattle.report_lines.specs.Line.{ToldLine, answered, block_of, runs, shows_code}
use Rattle.session_audit.specs.Fits.{SlotLog, at_call, after_at, is_none, is_refused_change, is_retold, only_if, running, same_code, visits_told, with_after}
use Rattle.explain_lines.specs.Origins.{Sources, origins_in}
use Rattle.explain_calls.specs.Calls.{past_text, call_after_text, call_text, change_text, first_text, refused_text, run_text, second_text}
use Rattle.explain_report.specs.Report.{block_text}
use Rattle.laws_explain.specs.Codes.{CallsEndWithTheirCode, EndsWith, FittingCallsEndWithTheirCode}
use Rattle.laws_explain.proofs.RowStateFacts.{ends_longer, runs_end_with_their_code}

nothing_more : (code : Code) (text : List ℕ) → EndsWith code text → EndsWith code (text ++ [])
nothing_more code text e = subst (EndsWith code) (sym (append-nil text)) e

module _ (stacks : Stacks) (sources : Sources) (number : ℕ) where
  run_ends : (func : Func) (type : RuleType) (stack : Stack) (kind : PassKind) (kept : Option KeptAnswers) (past : List Code) (told : Telling)
      → EndsWith (code_of (pass_after kind (answers_held kept) replaying stack past told)) (run_text stacks sources number func type stack kind kept past told)
  run_ends func type stack kind kept past told = runs_end_with_their_code number func type kind (origins_in sources type) (answers_held kept) stack past told

  first_ends : (func : Func) (past : List Code) (h : Held) (told : Telling)
      → EndsWith (first_pass as_told stacks func past h told).code (first_text stacks sources number func past h told)
  first_ends Authenticate past h told = run_ends Authenticate Auth stacks.auth Keep h.authenticated past told
  first_ends SetCred past h told = run_ends SetCred Auth stacks.auth (following h.authenticated) h.authenticated past told
  first_ends AcctMgmt past h told = run_ends AcctMgmt Account stacks.account Keep None past told
  first_ends OpenSession past h told = run_ends OpenSession Session stacks.session Keep h.opened past told
  first_ends CloseSession past h told = run_ends CloseSession Session stacks.session (following h.opened) h.opened past told
  first_ends ChAuthTok past h told = run_ends ChAuthTok Password stacks.password Keep None past told

  second_ends : (first : Option KeptAnswers) (past : List Code) (told : Telling)
      → EndsWith (second_pass as_told stacks first past told).code (second_text stacks sources number first past told)
  second_ends first past told = run_ends ChAuthTok Password stacks.password Follow first past told

  after_ends : (code : Code) (kept : Option KeptAnswers) (h : Held) (told : Telling) (text : List ℕ) → EndsWith code text
      → EndsWith (after_check as_told stacks code kept h told).code (text ++ past_text stacks sources number code kept told)
  after_ends codes.Success kept h told text e = ends_longer (second_pass as_told stacks kept [] told).code text _ (second_ends kept [] told)
  after_ends code kept h told text e = nothing_more code text e

  change_ends : (past : List Code) (first : Option KeptAnswers) (h : Held) (told : Telling)
      → EndsWith (change as_told stacks past first h told).code (change_text stacks sources number past first h told)
  change_ends past None h told =
      let p = first_pass as_told stacks ChAuthTok past h told in
      after_ends p.code p.kept (held_past ChAuthTok None p h) p.state (first_text stacks sources number ChAuthTok past h told)
      (first_ends ChAuthTok past h told)
  change_ends past (Some first) h told = second_ends (Some first) past told

  call_after_ends : (func : Func) (past : List Code) (first : Option KeptAnswers) (h : Held) (told : Telling)
      → EndsWith (call_after as_told stacks func past first h told).code (call_after_text stacks sources number func past first h told)
  call_after_ends Authenticate past first h told = first_ends Authenticate past h told
  call_after_ends SetCred past first h told = first_ends SetCred past h told
  call_after_ends AcctMgmt past first h told = first_ends AcctMgmt past h told
  call_after_ends OpenSession past first h told = first_ends OpenSession past h told
  call_after_ends CloseSession past first h told = first_ends CloseSession past h told
  call_after_ends ChAuthTok past first h told = change_ends past first h told

pub calls_end_with_their_code : CallsEndWithTheirCode
calls_end_with_their_code stacks sources number func h told = call_after_ends stacks sources number func (past_in h.pending) (first_in h.pending) h told

-- ---- in a report that fits

numbered : (code : Code) → get_or all_codes (number_of code) codes.Success ≡ code
numbered codes.Success = refl
numbered code = refl

are_same : (a b : Code) → same_code a b ≡ true → a ≡ b
are_same a b e =
    sym (numbered a) ∙ ap (λ (n : ℕ). get_or all_codes n codes.Success) (eqb-true (number_of a) (number_of b) e) ∙ numbered b

some_place : (places : List SlotLog) (number : ℕ) (next : Option SlotLog) (new_logs : List SlotLog) (stacks : Stacks)
    → with_after stacks places number next ≡ Some new_logs → next ≡ None → ⊥
some_place places number None new_logs stacks e is = absurd cc
some_place places number (Some place) new_logs stacks e is = absurd cc

only_true : (b : Bool) (place : SlotLog) → (only_if b place ≡ None → ⊥) → b ≡ true
only_true true place e = refl
only_true false place e = absurd (e refl)

went_on : (b : Bool) (x : Option SlotLog) → ((if b then None else x) ≡ None → ⊥) → x ≡ None → ⊥
went_on true x e is = e refl
went_on false x e is = e is

not_refused : (b : Bool) (x y : Option SlotLog) → b ≡ false → ((if b then x else y) ≡ None → ⊥) → y ≡ None → ⊥
not_refused true x y plain e is = absurd (true≢false plain)
not_refused false x y plain e is = e is

retold_code : (code : Code) (w : Went Telling) → is_retold code w ≡ true → code ≡ w.code
retold_code code w is =
    are_same code w.code (and_parts (is_none w.state.left) (same_code code w.code)
    (and_parts (not w.state.astray) (is_none w.state.left && same_code code w.code) is).1).1

code_told : (stacks : Stacks) (func : Func) (code : Code) (told : List ToldLine) (h : Held) → is_refused_change func code (visits_told told) ≡ false
    → (at_call stacks func code (visits_told told) h ≡ None → ⊥) → code ≡ (goes as_told stacks func h (telling (visits_told told))).code
code_told stacks func code told h plain fits =
    let w = goes as_told stacks func h (telling (visits_told told)) in
    let asked = not_refused (is_refused_change func code (visits_told told)) _ _ plain fits in
    let gone = went_on (is_other_pending h.pending func) _ asked in
    retold_code code w (only_true (is_retold code w) (running w.held) gone)

if_not_refused : (b : Bool) (code : Code) (x y : List ℕ) → b ≡ false → EndsWith code y → EndsWith code (if b then x else y)
if_not_refused true code x y plain e = absurd (true≢false plain)
if_not_refused false code x y plain e = e

pub fitting_calls_end_with_their_code : FittingCallsEndWithTheirCode
fitting_calls_end_with_their_code stacks sources places new_logs number told func code h opened fits plain =
    let vs = visits_told told in
    let result = answered (runs func) (shows_code code) in
    let there : with_after stacks places number (at_call stacks func code vs h) ≡ Some new_logs =
    ap (after_at stacks places (block_of number told result)) (sym opened) ∙ fits in
    let same : code ≡ (goes as_told stacks func h (telling vs)).code = code_told stacks func code told h plain
    (some_place places number (at_call stacks func code vs h) new_logs stacks there) in
    let text : List ℕ = call_text stacks sources number func h (telling vs) in
    let ends : EndsWith code text = subst (λ (c : Code). EndsWith c text) (sym same) (calls_end_with_their_code stacks sources number func h (telling vs)) in
    subst (λ (p : Option SlotLog). EndsWith code (block_text stacks sources number p vs result)) (sym opened)
    (if_not_refused (is_refused_change func code vs) code (refused_text number) text plain ends)
