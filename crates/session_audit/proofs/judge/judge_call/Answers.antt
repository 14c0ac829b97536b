use Rattle.std.proofs.Common.{◌≡◌, ◌&&◌, not, eqb, false, ℕ, ◌-◌, List, length, sym, ◌∙◌, ap}
use Rattle.pass_replay.specs.dispatch_core.specs.Calls.{goes}
use Rattle.pass_replay.specs.Held.{held_of}
use Rattle.pass_replay.specs.Replay.{as_told}
use Rattle.pass_replay.specs.Retold.{stacks_in, went_of}
use Rattle.handler_chain.specs.Retell.{RecordedLine, telling}
use Rattle.session_audit.specs.Checked.{told_in}
use Rattle.session_audit.specs.Differs.{lines_before}
use Rattle.session_audit.specs.Fits.{visits_told, is_refused_change, running, same_code}
use Rattle.session_audit.proofs.CheckedBlockFacts.{told_first, call_refused, call_aborted, call_goes, line_aborted, line_goes, visits_are, as_retold}
use Rattle.session_audit.proofs.CheckedBlockFacts.{retold_line, only_true, only_false}
use Rattle.session_audit.proofs.judge.judge_call.Goals as goal

pub returns-then-is_refused_change : goal.returns-then-is_refused_change
returns-then-is_refused_change c =
    call_refused (stacks_in c.args.trees.now) c.args.func c.args.code (visits_told (told_in c.args.told.now)) (held_of c.args.held)
    (sym c.is_refused_change.ensures ∙ c.if-is_refused_change.true)

pub returns-then-is_other_pending : goal.returns-then-is_other_pending
returns-then-is_other_pending c =
    let told = c.args.told.now in
    let vs = visits_told (told_in told) in
    let h = held_of c.args.held in
    let stacks = stacks_in c.args.trees.now in
    let refused : is_refused_change c.args.func c.args.code vs ≡ false = sym c.is_refused_change.ensures ∙ c.if-is_refused_change.false in
    let other = sym c.is_other_pending.ensures ∙ c.if-is_other_pending.true in (
      call_aborted stacks c.args.func c.args.code vs h refused other,
      told_first told c.first_visit.result c.first_visit.ensures
          ∙ ap (λ (n : ℕ). lines_before n (told_in told))
          (sym (line_aborted stacks c.args.func vs h (length vs - length (goes as_told stacks c.args.func h (telling vs)).state.left) other)),
    )

pub returns-then-is_retold : goal.returns-then-is_retold
returns-then-is_retold c =
    let told = c.args.told.now in
    let vs = visits_told (told_in told) in
    let h = held_of c.args.held in
    let stacks = stacks_in c.args.trees.now in
    let refused : is_refused_change c.args.func c.args.code vs ≡ false = sym c.is_refused_change.ensures ∙ c.if-is_refused_change.false in
    let other = sym c.is_other_pending.ensures ∙ c.if-is_other_pending.false in
    let r = c.in_ok-retold.retold in
    let w = goes as_told stacks c.args.func h (telling vs) in
    let is : went_of told r ≡ w = c.in_ok-retold.ensures.goes
    ∙ ap (λ (seen : List RecordedLine). goes as_told stacks c.args.func h (telling seen)) (sym (visits_are told)) in
    let goes_on = sym (call_goes stacks c.args.func c.args.code vs h refused other) in
    goes_on ∙ only_true (not r.astray && (eqb r.next (length told) && same_code c.args.code r.code)) (running (held_of r.held)) _
    (as_retold told r c.args.code w is c.in_ok-retold.ensures.next) (sym c.is_retold.ensures ∙ c.if-is_retold.true)

pub returns-else-is_retold : goal.returns-else-is_retold
returns-else-is_retold c =
    let told = c.args.told.now in
    let vs = visits_told (told_in told) in
    let h = held_of c.args.held in
    let stacks = stacks_in c.args.trees.now in
    let refused : is_refused_change c.args.func c.args.code vs ≡ false = sym c.is_refused_change.ensures ∙ c.if-is_refused_change.false in
    let other = sym c.is_other_pending.ensures ∙ c.if-is_other_pending.false in
    let r = c.in_ok-retold.retold in
    let w = goes as_told stacks c.args.func h (telling vs) in
    let is : went_of told r ≡ w = c.in_ok-retold.ensures.goes
    ∙ ap (λ (seen : List RecordedLine). goes as_told stacks c.args.func h (telling seen)) (sym (visits_are told)) in
    let goes_on = sym (call_goes stacks c.args.func c.args.code vs h refused other) in (
      goes_on ∙ only_false (not r.astray && (eqb r.next (length told) && same_code c.args.code r.code)) (running (held_of r.held)) _
          (as_retold told r c.args.code w is c.in_ok-retold.ensures.next) (sym c.is_retold.ensures ∙ c.if-is_retold.false),
      retold_line told r w is c.in_ok-retold.ensures.next ∙ ap (λ (n : ℕ). lines_before n (told_in told))
          (line_goes stacks c.args.func vs h (length vs - length w.state.left) other),
    )
