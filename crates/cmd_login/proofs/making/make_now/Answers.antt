use Rattle.std.proofs.Common.{◌≡◌, Err, refl, rules}
use Rattle.record_reader.specs.declared.ending.Stop.TheVariants.{NoMemory, WriteFault}
use Rattle.cmd_run.proofs.CallSequenceFacts.{call_ends}
use Rattle.cmd_run.proofs.RunPartFacts.{went_once}
use Rattle.cmd_run.proofs.ItemEffectFacts.{failed_place, failed_stack}
use Rattle.cmd_login.proofs.LoginCallFacts.{call_cut, call_failed, call_unwritten, call_written, exactly_made, failed_untold, possibly_made}
use Rattle.cmd_login.proofs.making.make_now.Goals as goal

pub returns-in_err-answer-clause-told : goal.returns-in_err-answer-clause-told
returns-in_err-answer-clause-told g c = λ place delay is told sink.
    let failed : c.from_residual.result ≡ Err NoMemory = search rules in
    rw failed (call_failed _ _ _ _ _ _ (record {
      place = failed_place _ _ _ _ _ told c.in_err-answer.ensures.fails.fails;
      leaves = c.apply.ensures.leaves;
      stops = failed_stack _ _ _ _ _ _ _ told c.in_err-answer.ensures.fails.stops;
      world = λ h. rw (c.apply.ensures.world h) refl;
      nap = rw c.in_err-answer.ensures.fails.no_nap refl;
    }))

pub returns-in_err-answer-clause-reports : goal.returns-in_err-answer-clause-reports
returns-in_err-answer-clause-reports g c = λ place sink.
    let failed : c.from_residual.result ≡ Err NoMemory = search rules in
    rw failed (call_failed _ _ _ _ _ _ (failed_untold _ _ _ _ c.in_err-answer.ensures.fails.fails))

pub returns-in_err-line-clause-told : goal.returns-in_err-line-clause-told
returns-in_err-line-clause-told g c = λ place delay is told sink.
    let failed : c.from_residual-in_err-line.result ≡ Err NoMemory = search rules in
    rw failed (call_unwritten _ _ _ _ _ _ (exactly_made _ _ _ _ _ c.in_ok-answer.field-0 _ _ (c.in_ok-answer.ensures.told delay is told)) _)

pub returns-in_err-line-clause-reports : goal.returns-in_err-line-clause-reports
returns-in_err-line-clause-reports g c = λ place sink.
    let failed : c.from_residual-in_err-line.result ≡ Err NoMemory = search rules in
    rw failed (call_unwritten _ _ _ _ _ _
    (possibly_made _ _ _ c.in_ok-answer.field-0 c.in_ok-answer.ensures.answers.answer c.in_ok-answer.ensures.answers.traces) _)

pub returns-in_err-write_all-clause-told : goal.returns-in_err-write_all-clause-told
returns-in_err-write_all-clause-told g c = λ place delay is told sink.
    let failed : c.from_residual-in_err-write_all.result ≡ Err WriteFault = search rules in
    rw failed (call_cut _ _ _ _ _ _ (exactly_made _ _ _ _ _ c.in_ok-answer.field-0 _ _ (c.in_ok-answer.ensures.told delay is told)) _ c.in_ok-line.ensures _ _
    c.in_err-write_all.field-0.0 (rw c.as_bytes.ensures.value at (c.in_err-write_all.ensures.told sink)))

pub returns-in_err-write_all-clause-reports : goal.returns-in_err-write_all-clause-reports
returns-in_err-write_all-clause-reports g c = λ place sink.
    let failed : c.from_residual-in_err-write_all.result ≡ Err WriteFault = search rules in
    rw failed (call_cut _ _ _ _ _ _
    (possibly_made _ _ _ c.in_ok-answer.field-0 c.in_ok-answer.ensures.answers.answer c.in_ok-answer.ensures.answers.traces) _ c.in_ok-line.ensures _ _
    c.in_err-write_all.field-0.0 (rw c.as_bytes.ensures.value at (c.in_err-write_all.ensures.told sink)))

pub returns-clause-told : goal.returns-clause-told
returns-clause-told g c = λ place delay is told sink.
    call_written _ _ _ _ _ _ (exactly_made _ _ _ _ _ c.in_ok-answer.field-0 _ _ (c.in_ok-answer.ensures.told delay is told)) _ c.in_ok-line.ensures _ _
    c.in_ok-write_all.field-0 (rw c.as_bytes.ensures.value at (c.in_ok-write_all.ensures.told sink))

pub returns-clause-reports : goal.returns-clause-reports
returns-clause-reports g c = λ place sink.
    call_written _ _ _ _ _ _
    (possibly_made _ _ _ c.in_ok-answer.field-0 c.in_ok-answer.ensures.answers.answer c.in_ok-answer.ensures.answers.traces) _ c.in_ok-line.ensures _ _
    c.in_ok-write_all.field-0 (rw c.as_bytes.ensures.value at (c.in_ok-write_all.ensures.told sink))

pub returns-in_err-answer-clause-went : goal.returns-in_err-answer-clause-went
returns-in_err-answer-clause-went g c =
    went_once _ _ _ (rw c.apply.ensures.gear refl) c.apply.ensures.keeps.tells c.apply.ensures.keeps.world_tells (λ number gives. rw c.apply.ensures.gear gives)
    (λ number gives. rw c.apply.ensures.gear at gives)
    _ c.apply.ensures.keeps.moves (call_ends _ _ _) c.apply.ensures.keeps.sound

pub returns-in_err-line-clause-went : goal.returns-in_err-line-clause-went
returns-in_err-line-clause-went g c =
    went_once _ _ _ (rw c.apply.ensures.gear refl) c.apply.ensures.keeps.tells c.apply.ensures.keeps.world_tells (λ number gives. rw c.apply.ensures.gear gives)
    (λ number gives. rw c.apply.ensures.gear at gives)
    _ c.apply.ensures.keeps.moves (call_ends _ _ _) c.apply.ensures.keeps.sound

pub returns-in_err-write_all-clause-went : goal.returns-in_err-write_all-clause-went
returns-in_err-write_all-clause-went g c =
    went_once _ _ _ (rw c.apply.ensures.gear refl) c.apply.ensures.keeps.tells c.apply.ensures.keeps.world_tells (λ number gives. rw c.apply.ensures.gear gives)
    (λ number gives. rw c.apply.ensures.gear at gives)
    _ c.apply.ensures.keeps.moves (call_ends _ _ _) c.apply.ensures.keeps.sound

pub returns-clause-went : goal.returns-clause-went
returns-clause-went g c =
    went_once _ _ _ (rw c.apply.ensures.gear refl) c.apply.ensures.keeps.tells c.apply.ensures.keeps.world_tells (λ number gives. rw c.apply.ensures.gear gives)
    (λ number gives. rw c.apply.ensures.gear at gives)
    _ c.apply.ensures.keeps.moves (call_ends _ _ _) c.apply.ensures.keeps.sound
