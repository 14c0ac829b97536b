-- A state that no SUCCESS mends: a failure, or another code that counted.
use Rattle.std.proofs.Common.{◌≡◌, ◌⊎◌, inl, inr, ℕ, Bool, true, false, true≢false, ◌&&◌, ◌||◌, not, if◌then◌else◌, nat_le, refl, sym, ◌∙◌, ap}
use Rattle.pam_base.specs.declared.code.Code.{Code}
use Rattle.pam_base.specs.declared.code.Code.TheVariants as codes
use Rattle.control_words.specs.declared.control.Action.{Action}
use Rattle.control_words.specs.declared.control.Action.TheVariants as actions
use Rattle.handler_chain.specs.declared.impression.Impression.{Impression}
use Rattle.handler_chain.specs.declared.impression.Impression.TheVariants.{Undefined, Positive, Negative}
use Rattle.handler_chain.specs.declared.opinion.Opinion.{Opinion}
use Rattle.handler_chain.specs.declared.pass_kind.PassKind.{PassKind}
use Rattle.handler_chain.specs.declared.pass_kind.PassKind.TheVariants as kinds
use Rattle.handler_chain.specs.Opinion.{acted, bad, good, good_by, is_ignore, jumped, opinion_of, overrun, verdict_at}
use Rattle.handler_chain.specs.Walk.{new_or_overrun}
use Rattle.laws_stack.specs.Counted.{is_other}
use Rattle.laws_stack.specs.Deeds.{grants, resets}
use Rattle.laws_stack.proofs.ActionStateFacts.{is_success, negative_denies}

abbrev pub spoiled_at : Impression → Code → Bool
spoiled_at Undefined status = false
spoiled_at Positive codes.Success = false
spoiled_at Positive status = true
spoiled_at Negative status = true

abbrev pub spoiled : Opinion → Bool
spoiled o = spoiled_at o.impression o.status

-- ---- no SUCCESS

unsuccessful : (status : Code) → spoiled_at Positive status ≡ true → is_success status ≡ false
unsuccessful codes.Success is = absurd (true≢false (sym is))
unsuccessful status is = refl

pub spoiled_denies : (i : Impression) (status : Code) → spoiled_at i status ≡ true → verdict_at i status ≡ codes.Success → ⊥
spoiled_denies Undefined status is e = absurd (true≢false (sym is))
spoiled_denies Positive status is e = true≢false (sym (ap is_success e) ∙ unsuccessful status is)
spoiled_denies Negative status is e = negative_denies Negative status refl e

-- ---- a line

-- whether a line has spoiled the run since the last reset
abbrev pub spoiled_by : PassKind → Action → Code → Bool → Bool
spoiled_by kind actions.Reset answer now = false
spoiled_by kind action answer now = now || (grants kind action && is_other answer)

positive_other : (code : Code) → is_other code ≡ true → spoiled_at Positive code ≡ true
positive_other codes.Success is = absurd (true≢false (sym is))
positive_other code is = refl

other_counts : (code : Code) → is_other code ≡ true → is_ignore code ≡ false
other_counts codes.Ignore is = absurd (true≢false (sym is))
other_counts code is = refl

good_spoils : (i : Impression) (status answer : Code) → is_other answer ≡ true → spoiled (good i status answer) ≡ true
good_spoils Undefined status answer is = positive_other answer is
good_spoils Positive codes.Success answer is = positive_other answer is
good_spoils Positive status answer is = refl
good_spoils Negative status answer is = refl

good_keeps : (i : Impression) (status answer : Code) → spoiled_at i status ≡ true → spoiled (good i status answer) ≡ true
good_keeps Undefined status answer is = absurd (true≢false (sym is))
good_keeps Positive codes.Success answer is = absurd (true≢false (sym is))
good_keeps Positive status answer is = refl
good_keeps Negative status answer is = refl

bad_spoils : (i : Impression) (status answer : Code) → spoiled (bad i status answer) ≡ true
bad_spoils Negative status answer = refl
bad_spoils i status codes.Ignore = refl
bad_spoils i status answer = refl

both_spoiled : (b : Bool) (x y : Opinion) → spoiled x ≡ true → spoiled y ≡ true → spoiled (if b then x else y) ≡ true
both_spoiled true x y one two = one
both_spoiled false x y one two = two

second_spoiled : (b : Bool) (x y : Opinion) → b ≡ false → spoiled y ≡ true → spoiled (if b then x else y) ≡ true
second_spoiled true x y is two = absurd (true≢false is)
second_spoiled false x y is two = two

first_false : (a b : Bool) → a ≡ false → (a && b) ≡ false
first_false true b is = absurd (true≢false is)
first_false false b is = refl

module _ (i : Impression) (status answer : Code) where
  -- the state before was spoiled, or this code spoils it
  good_by_keeps : (deciding : Code) → spoiled_at i status ≡ true → spoiled (good_by deciding i status answer) ≡ true
  good_by_keeps deciding is = both_spoiled (is_ignore answer && not (is_ignore deciding)) (opinion_of i status) (good i status answer) is
      (good_keeps i status answer is)

  good_by_spoils : (deciding : Code) → is_other answer ≡ true → spoiled (good_by deciding i status answer) ≡ true
  good_by_spoils deciding is =
      second_spoiled (is_ignore answer && not (is_ignore deciding)) (opinion_of i status) (good i status answer)
      (first_false (is_ignore answer) (not (is_ignore deciding)) (other_counts answer is)) (good_spoils i status answer is)

  jumped_keeps : (kind : PassKind) → spoiled_at i status ≡ true → spoiled (jumped kind i status answer) ≡ true
  jumped_keeps kinds.Keep is = is
  jumped_keeps kinds.Follow is = both_spoiled (is_ignore answer) (opinion_of i status) (good i status answer) is (good_keeps i status answer is)
  jumped_keeps kinds.Loose is = both_spoiled (is_ignore answer) (opinion_of i status) (good i status answer) is (good_keeps i status answer is)

  jumped_spoils : (kind : PassKind) (n : ℕ) → grants kind (actions.Jump n) ≡ true → is_other answer ≡ true → spoiled (jumped kind i status answer) ≡ true
  jumped_spoils kinds.Keep n counts is = absurd (true≢false (sym counts))
  jumped_spoils kinds.Follow n counts is = second_spoiled (is_ignore answer) (opinion_of i status) (good i status answer) (other_counts answer is)
      (good_spoils i status answer is)
  jumped_spoils kinds.Loose n counts is = second_spoiled (is_ignore answer) (opinion_of i status) (good i status answer) (other_counts answer is)
      (good_spoils i status answer is)

acted_keeps : (kind : PassKind) (a : Action) (answer deciding : Code) (entry o : Opinion) → resets a ≡ false → spoiled o ≡ true
    → spoiled (acted kind a answer deciding entry o) ≡ true
acted_keeps kind actions.Ignore answer deciding entry o calm is = is
acted_keeps kind actions.Ok answer deciding entry o calm is = good_by_keeps o.impression o.status answer deciding is
acted_keeps kind actions.Done answer deciding entry o calm is = good_by_keeps o.impression o.status answer deciding is
acted_keeps kind actions.Bad answer deciding entry o calm is = bad_spoils o.impression o.status answer
acted_keeps kind actions.Die answer deciding entry o calm is = bad_spoils o.impression o.status answer
acted_keeps kind actions.Reset answer deciding entry o calm is = absurd (true≢false calm)
acted_keeps kind (actions.Jump n) answer deciding entry o calm is = jumped_keeps o.impression o.status answer kind is

acted_spoils : (kind : PassKind) (a : Action) (answer deciding : Code) (entry o : Opinion) → grants kind a ≡ true → is_other answer ≡ true
    → spoiled (acted kind a answer deciding entry o) ≡ true
acted_spoils kind actions.Ignore answer deciding entry o counts is = absurd (true≢false (sym counts))
acted_spoils kind actions.Ok answer deciding entry o counts is = good_by_spoils o.impression o.status answer deciding is
acted_spoils kind actions.Done answer deciding entry o counts is = good_by_spoils o.impression o.status answer deciding is
acted_spoils kind actions.Bad answer deciding entry o counts is = absurd (true≢false (sym counts))
acted_spoils kind actions.Die answer deciding entry o counts is = absurd (true≢false (sym counts))
acted_spoils kind actions.Reset answer deciding entry o counts is = absurd (true≢false (sym counts))
acted_spoils kind (actions.Jump n) answer deciding entry o counts is = jumped_spoils o.impression o.status answer kind n counts is

last_spoiled : (a : Action) (left : ℕ) (new : Opinion) → spoiled new ≡ true → spoiled (new_or_overrun a left new) ≡ true
last_spoiled actions.Ignore left new is = is
last_spoiled actions.Ok left new is = is
last_spoiled actions.Done left new is = is
last_spoiled actions.Bad left new is = is
last_spoiled actions.Die left new is = is
last_spoiled actions.Reset left new is = is
last_spoiled (actions.Jump n) left new is = both_spoiled (nat_le n left) new overrun is refl

either : (a b c : Bool) → (a || (b && c)) ≡ true → (a ≡ true) ⊎ ((b ≡ true) × (c ≡ true))
either true b c is = inl refl
either false true true is = inr (refl, refl)
either false true false is = absurd (true≢false (sym is))
either false false c is = absurd (true≢false (sym is))

-- what spoils a run, by the action of a line
by_action : (kind : PassKind) (a : Action) (answer : Code) (now : Bool) → spoiled_by kind a answer now ≡ true
    → (resets a ≡ false) × ((now || (grants kind a && is_other answer)) ≡ true)
by_action kind actions.Ignore answer now is = (refl, is)
by_action kind actions.Ok answer now is = (refl, is)
by_action kind actions.Done answer now is = (refl, is)
by_action kind actions.Bad answer now is = (refl, is)
by_action kind actions.Die answer now is = (refl, is)
by_action kind actions.Reset answer now is = absurd (true≢false (sym is))
by_action kind (actions.Jump n) answer now is = (refl, is)

pub settled_spoiled : (kind : PassKind) (a : Action) (left : ℕ) (answer deciding : Code) (entry o : Opinion) (now : Bool) → (now ≡ true → spoiled o ≡ true)
    → spoiled_by kind a answer now ≡ true → spoiled (new_or_overrun a left (acted kind a answer deciding entry o)) ≡ true
settled_spoiled kind a left answer deciding entry o now before is =
    let by = by_action kind a answer now is in
    last_spoiled a left (acted kind a answer deciding entry o) (elim (either now (grants kind a) (is_other answer) by.1) [
      | inl old ↦ acted_keeps kind a answer deciding entry o by.0 (before old)
      | inr new ↦ acted_spoils kind a answer deciding entry o new.0 new.1
    ])

-- ---- since the last reset

then_true : (now b : Bool) → b ≡ true → (now || b) ≡ true
then_true true b is = refl
then_true false b is = is

both_true : (now a b : Bool) → a ≡ true → b ≡ true → (now || (a && b)) ≡ true
both_true now true true one two = then_true now true refl
both_true now true false one two = absurd (true≢false (sym two))
both_true now false b one two = absurd (true≢false (sym one))

pub spoils_now : (kind : PassKind) (a : Action) (answer : Code) (now : Bool) → grants kind a ≡ true → is_other answer ≡ true
    → spoiled_by kind a answer now ≡ true
spoils_now kind actions.Ignore answer now counts is = absurd (true≢false (sym counts))
spoils_now kind actions.Ok answer now counts is = then_true now (is_other answer) is
spoils_now kind actions.Done answer now counts is = then_true now (is_other answer) is
spoils_now kind actions.Bad answer now counts is = absurd (true≢false (sym counts))
spoils_now kind actions.Die answer now counts is = absurd (true≢false (sym counts))
spoils_now kind actions.Reset answer now counts is = absurd (true≢false (sym counts))
spoils_now kind (actions.Jump n) answer now counts is = both_true now (grants kind (actions.Jump n)) (is_other answer) counts is

pub spoiled_stays : (kind : PassKind) (a : Action) (answer : Code) → resets a ≡ false → spoiled_by kind a answer true ≡ true
spoiled_stays kind actions.Ignore answer calm = refl
spoiled_stays kind actions.Ok answer calm = refl
spoiled_stays kind actions.Done answer calm = refl
spoiled_stays kind actions.Bad answer calm = refl
spoiled_stays kind actions.Die answer calm = refl
spoiled_stays kind actions.Reset answer calm = absurd (true≢false calm)
spoiled_stays kind (actions.Jump n) answer calm = refl
