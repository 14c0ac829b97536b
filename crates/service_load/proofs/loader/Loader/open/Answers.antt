use Rattle.std.proofs.Common.{◌≡◌, Err, refl, rules}
use Rattle.service_load.proofs.OpenedFileFacts.{asked_is, asked_if, opens_deep, opens_many, opens_served, none_served, err_served, needs_nothing, opens_none, opens_absent, opens_err}
use Rattle.service_load.proofs.loader.Loader.open.Goals as goal

pub returns-then-at-gt-MAX_LEVEL-clause-told : goal.returns-then-at-gt-MAX_LEVEL-clause-told
returns-then-at-gt-MAX_LEVEL-clause-told g c = λ tells. opens_deep _ _ _ _ _ _ _ _ _ c.if-at-gt-MAX_LEVEL.true c.requires refl c.refused_opening.ensures

pub returns-then-self-ge-MAX_OPENINGS-clause-told : goal.returns-then-self-ge-MAX_OPENINGS-clause-told
returns-then-self-ge-MAX_OPENINGS-clause-told g c = λ tells. opens_many _ _ _ _ _ _ _ _ _ c.if-at-gt-MAX_LEVEL.false c.if-self-ge-MAX_OPENINGS.true refl c.refused_opening-then-self-ge-MAX_OPENINGS.ensures

pub returns-in_err-entries-clause-told : goal.returns-in_err-entries-clause-told
returns-in_err-entries-clause-told g c = λ tells.
    let answered : c.from_residual.result ≡ Err c.in_err-entries.field-0.0 = search rules in
    rw answered (opens_err _ _ _ _ _ _ _ _ c.in_err-entries.field-0.0 c.if-at-gt-MAX_LEVEL.false c.if-self-ge-MAX_OPENINGS.false
    (asked_if _ _ _ _ _ c.in_err-entries.ensures.counted (c.in_err-entries.ensures.calls tells)) (err_served _ _ _ _ _ (c.in_err-entries.ensures.told tells)))

pub returns-in-Some-clause-told : goal.returns-in-Some-clause-told
returns-in-Some-clause-told g c = λ tells.
    opens_served _ _ _ _ _ _ _ _ _ c.if-at-gt-MAX_LEVEL.false c.if-self-ge-MAX_OPENINGS.false
    (asked_is _ _ _ _ c.in_ok-entries.ensures.counted (c.in_ok-entries.ensures.calls tells)) (rw c.in-Some.is at (c.in_ok-entries.ensures.told tells))

pub returns-in-Service-clause-told : goal.returns-in-Service-clause-told
returns-in-Service-clause-told g c = λ tells.
    opens_none _ _ _ _ _ _ _ _ c.if-at-gt-MAX_LEVEL.false c.if-self-ge-MAX_OPENINGS.false
    (asked_is _ _ _ _ c.in_ok-entries.ensures.counted (c.in_ok-entries.ensures.calls tells)) (none_served _ _ _ _ (rw c.in-None.is at (c.in_ok-entries.ensures.told tells))) (needs_nothing _ _ c.in-Service.is)

pub returns-in-Last-clause-told : goal.returns-in-Last-clause-told
returns-in-Last-clause-told g c = λ tells.
    rw c.in-Last.is (opens_absent _ _ _ _ _ _ _ _ _ _ c.if-at-gt-MAX_LEVEL.false c.if-self-ge-MAX_OPENINGS.false
    (asked_is _ _ _ _ c.in_ok-entries.ensures.counted (c.in_ok-entries.ensures.calls tells)) (none_served _ _ _ _ (rw c.in-None.is at (c.in_ok-entries.ensures.told tells))) refl c.refused.ensures)

pub returns-in-Rule-clause-told : goal.returns-in-Rule-clause-told
returns-in-Rule-clause-told g c = λ tells.
    rw c.in-Rule.is (opens_absent _ _ _ _ _ _ _ _ _ _ c.if-at-gt-MAX_LEVEL.false c.if-self-ge-MAX_OPENINGS.false
    (asked_is _ _ _ _ c.in_ok-entries.ensures.counted (c.in_ok-entries.ensures.calls tells)) (none_served _ _ _ _ (rw c.in-None.is at (c.in_ok-entries.ensures.told tells))) refl c.refused-in-Rule.ensures)
