-- What the checker finds for a block is the block's result.
use Rattle.std.proofs.Common.{◌≡◌, ℕ, zero, suc, ◌+◌, ◌-◌, ◌≤◌, ◌<◌, Bool, true, false, not, ◌&&◌, eqb, eq-eqb, if◌then◌else◌, List, []}
use Rattle.std.proofs.Common.{◌∷◌, length, drop, Option, Some, None, refl, sym, ◌∙◌, ap, arith, ne_eqb}
use Rattle.pam_base.specs.declared.code.Code.{Code}
use Rattle.pam_base.specs.declared.call.Func.{Func}
use Rattle.pam_base.specs.declared.call.Func.TheVariants as funcs
use Rattle.pam_base.specs.declared.code.Code.TheVariants as codes
use Rattle.handler_chain.specs.declared.seen.RecordedLine.{RecordedLine}
use Rattle.handler_chain.specs.Seen.{seen_of}
use Rattle.handler_chain.specs.Retell as retell
use Rattle.handler_chain.specs.Retell.{telling}
use Rattle.service_load.specs.Stacks.{Stacks}
use Rattle.pass_replay.specs.dispatch_core.specs.Calls.{Held, Went, goes}
use Rattle.pass_replay.specs.dispatch_core.specs.Pending.{is_other_pending}
use Rattle.pass_replay.specs.declared.retold.Retold.{Retold}
use Rattle.pass_replay.specs.Held.{held_of}
use Rattle.pass_replay.specs.Replay.{as_told}
use Rattle.pass_replay.specs.Retold.{went_of}
use Rattle.pass_replay.specs.Told.{visits_in, lines_before}
use Rattle.report_lines.specs.Line.{Command, starts, ends, runs, sets_item, gets_item, puts_env, gets_env, lists_env, asks_delay}
use Rattle.report_lines.specs.Line.{switches_delay, replies, Shown, shows_code, shows_fault, shows_value, shows_count, shows_not_open}
use Rattle.report_lines.specs.Line.{shows_already_open, shows_bad_number, shows_pending, Result, answered, closed_by_program}
use Rattle.session_audit.specs.Fits.{SlotLog, shut, running, visits_told, is_none, only_if, same_code, is_refused_change, without_visits}
use Rattle.session_audit.specs.Fits.{past_call, at_call, after_result}
use Rattle.session_audit.specs.Differs as told_lines
use Rattle.session_audit.specs.Differs.{visits_good}
use Rattle.session_audit.specs.Checked.{told_in, after_quiet, IsCall}

-- ---- lines run among recorded lines

pub visits_are : (told : List (Option RecordedLine)) → visits_told (told_in told) ≡ visits_in told
visits_are [] = refl
visits_are (None ∷ told) = visits_are told
visits_are (Some v ∷ told) = ap (λ (vs : List retell.RecordedLine). seen_of v ∷ vs) (visits_are told)

pub lines_are : (i : ℕ) (told : List (Option RecordedLine)) → told_lines.lines_before i (told_in told) ≡ lines_before i told
lines_are zero [] = refl
lines_are (suc i) [] = refl
lines_are zero (None ∷ told) = ap (λ (n : ℕ). n + 1) (lines_are zero told)
lines_are (suc i) (None ∷ told) = ap (λ (n : ℕ). n + 1) (lines_are (suc i) told)
lines_are zero (Some v ∷ told) = refl
lines_are (suc i) (Some v ∷ told) = ap (λ (n : ℕ). n + 1) (lines_are i told)

pub within_all : (i : ℕ) (told : List (Option RecordedLine)) → lines_before i told ≤ length told
within_all zero [] = omega arith
within_all (suc i) [] = omega arith
within_all zero (None ∷ told) = omega (arith, within_all zero told)
within_all (suc i) (None ∷ told) = omega (arith, within_all (suc i) told)
within_all zero (Some v ∷ told) = omega arith
within_all (suc i) (Some v ∷ told) = omega (arith, within_all i told)

-- a line of a block that is named is one of its recorded lines, or the one after them
pub named_within : (i line : ℕ) (told : List (Option RecordedLine)) → line ≡ told_lines.lines_before i (told_in told) → line ≤ length told
named_within i line told is = omega (arith, lines_are i told, within_all i told)

-- ---- no line run is among recorded lines if and only if all come before the first

skips : (i : ℕ) (told : List (Option RecordedLine)) → lines_before i (None ∷ told) ≡ lines_before i told + 1
skips zero told = refl
skips (suc i) told = refl

-- all lines come before a line run after the last
all_before : (told : List (Option RecordedLine)) → lines_before (length (visits_in told)) told ≡ length told
all_before [] = refl
all_before (None ∷ told) = omega (arith, skips (length (visits_in told)) told, all_before told)
all_before (Some v ∷ told) = omega (arith, all_before told)

none_after : (told : List (Option RecordedLine)) → drop (length told) told ≡ []
none_after [] = refl
none_after (t ∷ told) = none_after told

no_visits : (told : List (Option RecordedLine)) → length told ≤ lines_before 0 told → visits_in told ≡ []
no_visits [] le = refl
no_visits (None ∷ told) le = no_visits told (omega arith)
no_visits (Some v ∷ told) le = absurd (omega arith)

a_visit : (told : List (Option RecordedLine)) → lines_before 0 told < length told → is_none (visits_in told) ≡ false
a_visit [] lt = absurd (omega arith)
a_visit (None ∷ told) lt = a_visit told (omega arith)
a_visit (Some v ∷ told) lt = refl

none_is : (vs : List retell.RecordedLine) → is_none vs ≡ true → vs ≡ []
none_is [] is = refl
none_is (v ∷ vs) is = absurd (cc)

by_left : (told : List (Option RecordedLine)) (next : ℕ) (left : List retell.RecordedLine) → visits_in (drop next told) ≡ left
    → next ≡ lines_before (length (visits_in told) - length left) told → eqb next (length told) ≡ is_none left
by_left told next [] is at =
    let all : length (visits_in told) - 0 ≡ length (visits_in told) = omega arith in
    eq-eqb next (length told) (at ∙ ap (λ (k : ℕ). lines_before k told) all ∙ all_before told)
by_left told next (v ∷ left) is at =
    ne_eqb next (length told) (λ e.
    let none : v ∷ left ≡ [] = sym is ∙ ap (λ (k : ℕ). visits_in (drop k told)) e ∙ ap visits_in (none_after told) in
    absurd (cc))

pub all_taken : (told : List (Option RecordedLine)) (next : ℕ) → next ≡ lines_before (length (visits_in told) - length (visits_in (drop next told))) told
    → eqb next (length told) ≡ is_none (visits_in (drop next told))
all_taken told next at = by_left told next (visits_in (drop next told)) refl at

-- ---- what the checker knows

pub told_none : (told : List (Option RecordedLine)) (first : ℕ) → first ≡ lines_before 0 told → length told ≤ first → visits_told (told_in told) ≡ []
told_none told first is le = visits_are told ∙ no_visits told (omega arith)

pub told_some : (told : List (Option RecordedLine)) (first : ℕ) → first ≡ lines_before 0 told → first < length told → is_none (visits_told (told_in told)) ≡ false
told_some told first is lt = ap is_none (visits_are told) ∙ a_visit told (omega arith)

pub told_first : (told : List (Option RecordedLine)) (first : ℕ) → first ≡ lines_before 0 told → first ≡ told_lines.lines_before 0 (told_in told)
told_first told first is = is ∙ sym (lines_are 0 told)

pub quiet_told : (vs : List retell.RecordedLine) (x : Option SlotLog) → is_none vs ≡ false → without_visits vs x ≡ None
quiet_told [] x is = absurd (cc)
quiet_told (v ∷ vs) x is = refl

pub quiet_as : (vs : List retell.RecordedLine) (x y : Option SlotLog) → vs ≡ [] → y ≡ x → without_visits vs x ≡ y
quiet_as vs x y none is = ap (λ (w : List retell.RecordedLine). without_visits w x) none ∙ sym is

pub and_no : (a b : Bool) → b ≡ false → (a && b) ≡ false
and_no true b is = is
and_no false b is = refl

pub both_are : (a b : Bool) (vs : List retell.RecordedLine) → a ≡ b → vs ≡ [] → (a && is_none vs) ≡ b
both_are true b vs is none = ap is_none none ∙ is
both_are false b vs is none = is

-- ---- stack calls

if_true : {A : Type 0} → (b : Bool) (x y : A) → b ≡ true → (if b then x else y) ≡ x
if_true true x y is = refl
if_true false x y is = absurd (cc)

if_false : {A : Type 0} → (b : Bool) (x y : A) → b ≡ false → (if b then x else y) ≡ y
if_false true x y is = absurd (cc)
if_false false x y is = refl

no_more : (b : Bool) → b ≡ (b && true)
no_more true = refl
no_more false = refl

nothing_more : (b : Bool) → false ≡ (b && false)
nothing_more true = refl
nothing_more false = refl

-- whether a chauthtok was refused: by its code, and because it ran no line
pub refused_by : (func : Func) (code : Code) (vs : List retell.RecordedLine) → is_refused_change func code vs ≡ (is_refused_change func code [] && is_none vs)
refused_by funcs.Authenticate code vs = refl
refused_by funcs.SetCred code vs = refl
refused_by funcs.AcctMgmt code vs = refl
refused_by funcs.OpenSession code vs = refl
refused_by funcs.CloseSession code vs = refl
refused_by funcs.ChAuthTok code [] = no_more (same_code code codes.SystemErr)
refused_by funcs.ChAuthTok code (v ∷ vs) = nothing_more (same_code code codes.SystemErr)

module _ (stacks : Stacks) where
  pub call_refused : (func : Func) (code : Code) (vs : List retell.RecordedLine) (h : Held) → is_refused_change func code vs ≡ true
      → at_call stacks func code vs h ≡ Some (running h)
  call_refused func code vs h is = if_true (is_refused_change func code vs) (Some (running h)) _ is

  pub call_aborted : (func : Func) (code : Code) (vs : List retell.RecordedLine) (h : Held) → is_refused_change func code vs ≡ false
      → is_other_pending h.pending func ≡ true → at_call stacks func code vs h ≡ None
  call_aborted func code vs h is other = if_false (is_refused_change func code vs) (Some (running h)) _ is
      ∙ if_true (is_other_pending h.pending func) None _ other

  pub call_goes : (func : Func) (code : Code) (vs : List retell.RecordedLine) (h : Held) → is_refused_change func code vs ≡ false
      → is_other_pending h.pending func ≡ false
      → past_call code (goes as_told stacks func h (telling vs)) ≡ at_call stacks func code vs h
  call_goes func code vs h is other = sym (if_false (is_refused_change func code vs) (Some (running h)) _ is
      ∙ if_false (is_other_pending h.pending func) None _ other)

  pub line_aborted : (func : Func) (vs : List retell.RecordedLine) (h : Held) (n : ℕ) → is_other_pending h.pending func ≡ true
      → (if is_other_pending h.pending func then 0 else n) ≡ 0
  line_aborted func vs h n other = if_true (is_other_pending h.pending func) 0 n other

  pub line_goes : (func : Func) (vs : List retell.RecordedLine) (h : Held) (n : ℕ) → is_other_pending h.pending func ≡ false
      → n ≡ (if is_other_pending h.pending func then 0 else n)
  line_goes func vs h n other = sym (if_false (is_other_pending h.pending func) 0 n other)

-- the lines that a replayed call took
pub as_retold : (told : List (Option RecordedLine)) (r : Retold) (code : Code) (w : Went retell.Telling) → went_of told r ≡ w
    → r.next ≡ lines_before (length (visits_in told) - length (visits_in (drop r.next told))) told
    → past_call code w ≡ only_if (not r.astray && (eqb r.next (length told) && same_code code r.code)) (running (held_of r.held))
as_retold told r code w is at =
    ap (past_call code) (sym is)
    ∙ ap (λ (b : Bool). only_if (not r.astray && (b && same_code code r.code)) (running (held_of r.held))) (sym (all_taken told r.next at))

pub retold_line : (told : List (Option RecordedLine)) (r : Retold) (w : Went retell.Telling) → went_of told r ≡ w
    → r.next ≡ lines_before (length (visits_in told) - length (visits_in (drop r.next told))) told
    → r.next ≡ told_lines.lines_before (length (visits_told (told_in told)) - length w.state.left) (told_in told)
retold_line told r w is at =
    at ∙ ap (λ (v : Went retell.Telling). lines_before (length (visits_in told) - length v.state.left) told) is
    ∙ ap (λ (vs : List retell.RecordedLine). lines_before (length vs - length w.state.left) told) (sym (visits_are told))
    ∙ sym (lines_are (length (visits_told (told_in told)) - length w.state.left) told)

pub only_true : (b : Bool) (p : SlotLog) (x : Option SlotLog) → x ≡ only_if b p → b ≡ true → x ≡ Some p
only_true true p x is holds = is
only_true false p x is holds = absurd (cc)

pub only_false : (b : Bool) (p : SlotLog) (x : Option SlotLog) → x ≡ only_if b p → b ≡ false → x ≡ None
only_false true p x is holds = absurd (cc)
only_false false p x is holds = is

-- ---- results that aren't a code of a stack call

none_without : (vs : List retell.RecordedLine) → without_visits vs None ≡ None
none_without [] = refl
none_without (v ∷ vs) = refl

module _ (stacks : Stacks) where
  quiet_open : (h : Held) (vs : List retell.RecordedLine) (command : Command) (shown : Shown) → IsCall None (answered command shown)
      → after_result stacks (running h) vs (answered command shown) ≡ without_visits vs (after_quiet (running h) (answered command shown))
  quiet_open h vs starts shown is = refl
  quiet_open h vs ends shown is = refl
  quiet_open h vs (runs func) (shows_code code) is = absurd (is func code refl)
  quiet_open h vs (runs func) (shows_fault fault) is = sym (none_without vs)
  quiet_open h vs (runs func) (shows_value value) is = sym (none_without vs)
  quiet_open h vs (runs func) (shows_count n) is = sym (none_without vs)
  quiet_open h vs (runs func) shows_not_open is = sym (none_without vs)
  quiet_open h vs (runs func) shows_already_open is = sym (none_without vs)
  quiet_open h vs (runs func) shows_bad_number is = sym (none_without vs)
  quiet_open h vs (runs func) (shows_pending other) is = refl
  quiet_open h vs sets_item shown is = refl
  quiet_open h vs gets_item shown is = refl
  quiet_open h vs puts_env shown is = refl
  quiet_open h vs gets_env shown is = refl
  quiet_open h vs lists_env shown is = refl
  quiet_open h vs asks_delay shown is = refl
  quiet_open h vs switches_delay shown is = refl
  quiet_open h vs replies shown is = refl

  pub quiet_result : (place : SlotLog) (vs : List retell.RecordedLine) (result : Result) → IsCall None result
      → after_result stacks place vs result ≡ without_visits vs (after_quiet place result)
  quiet_result shut vs (answered command shown) is = refl
  quiet_result shut vs (closed_by_program code) is = sym (none_without vs)
  quiet_result (running h) vs (answered command shown) is = quiet_open h vs command shown is
  quiet_result (running h) vs (closed_by_program code) is = refl

  quiet_good-open : (h : Held) (vs : List retell.RecordedLine) (command : Command) (shown : Shown) → IsCall None (answered command shown)
      → visits_good stacks (Some (running h)) vs (answered command shown) ≡ 0
  quiet_good-open h vs (runs func) (shows_code code) is = absurd (is func code refl)
  quiet_good-open h vs (runs func) (shows_fault fault) is = refl
  quiet_good-open h vs (runs func) (shows_value value) is = refl
  quiet_good-open h vs (runs func) (shows_count n) is = refl
  quiet_good-open h vs (runs func) shows_not_open is = refl
  quiet_good-open h vs (runs func) shows_already_open is = refl
  quiet_good-open h vs (runs func) shows_bad_number is = refl
  quiet_good-open h vs (runs func) (shows_pending other) is = refl
  quiet_good-open h vs command shown is = refl

  pub quiet_good : (place : SlotLog) (vs : List retell.RecordedLine) (result : Result) → IsCall None result → visits_good stacks (Some place) vs result ≡ 0
  quiet_good shut vs result is = refl
  quiet_good (running h) vs (answered command shown) is = quiet_good-open h vs command shown is
  quiet_good (running h) vs (closed_by_program code) is = refl

  -- a closed transaction has no such code
  pub shut_result : (vs : List retell.RecordedLine) (result : Result) → after_result stacks shut vs result ≡ without_visits vs (after_quiet shut result)
  shut_result vs (answered command shown) = refl
  shut_result vs (closed_by_program code) = sym (none_without vs)
