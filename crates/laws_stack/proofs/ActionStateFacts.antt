-- What a line's action does to the state.
use Rattle.std.proofs.Common.{◌≡◌, ℕ, Bool, true, false, true≢false, ◌&&◌, not, if◌then◌else◌, nat_le, refl, sym, ◌∙◌, ap}
use Rattle.pam_base.specs.declared.code.Code.{Code}
use Rattle.pam_base.specs.declared.code.Code.TheVariants as codes
use Rattle.control_words.specs.declared.control.Action.{Action}
use Rattle.control_words.specs.declared.control.Action.TheVariants as actions
use Rattle.handler_chain.specs.declared.impression.Impression.{Impression}
use Rattle.handler_chain.specs.declared.impression.Impression.TheVariants.{Undefined, Positive, Negative}
use Rattle.handler_chain.specs.declared.opinion.Opinion.{Opinion}
use Rattle.handler_chain.specs.declared.pass_kind.PassKind.{PassKind}
use Rattle.handler_chain.specs.declared.pass_kind.PassKind.TheVariants as kinds
use Rattle.handler_chain.specs.Opinion.{acted, bad, good, good_by, is_ignore, jumped, opinion_of, overrun, verdict, verdict_at}
use Rattle.handler_chain.specs.Route.{negative_past}
use Rattle.handler_chain.specs.Walk.{is_negative, new_or_overrun}
use Rattle.handler_chain.proofs.Negativity.{acted_negative, negative_opinion, settled_negative}
use Rattle.laws_stack.specs.Deeds.{denies, grants, resets}

-- ---- a negative state has no SUCCESS

abbrev pub is_success : Code → Bool
is_success codes.Success = true
is_success code = false

unsuccessful : (status : Code) → is_success (verdict_at Negative status) ≡ false
unsuccessful codes.Success = refl
unsuccessful status = refl

pub negative_denies : (i : Impression) (status : Code) → is_negative i ≡ true → verdict_at i status ≡ codes.Success → ⊥
negative_denies Undefined status is e = absurd (true≢false (sym is))
negative_denies Positive status is e = absurd (true≢false (sym is))
negative_denies Negative status is e = true≢false (sym (ap is_success e) ∙ unsuccessful status)

-- ---- where a SUCCESS comes from: the state before, the one at the list's entry, or this line

module _ (G : Type 0) where
  bad_never : (i : Impression) (status answer : Code) → verdict (bad i status answer) ≡ codes.Success → is_negative (bad i status answer).impression ≡ true → G
  bad_never i status answer e is = absurd (negative_denies (bad i status answer).impression (bad i status answer).status is e)

  good_from : (i : Impression) (status answer : Code) → (verdict_at i status ≡ codes.Success → G) → (answer ≡ codes.Success → G)
      → verdict (good i status answer) ≡ codes.Success → G
  good_from Undefined status answer before here e = here e
  good_from Positive codes.Success answer before here e = here e
  good_from Positive status answer before here e = before e
  good_from Negative status answer before here e = before e

  if_from : (b : Bool) (x y : Opinion) → (verdict x ≡ codes.Success → G) → (verdict y ≡ codes.Success → G) → verdict (if b then x else y) ≡ codes.Success → G
  if_from true x y one two e = one e
  if_from false x y one two e = two e

  good_by_from : (deciding : Code) (i : Impression) (status answer : Code) → (verdict_at i status ≡ codes.Success → G) → (answer ≡ codes.Success → G)
      → verdict (good_by deciding i status answer) ≡ codes.Success → G
  good_by_from deciding i status answer before here = if_from (is_ignore answer && not (is_ignore deciding)) (opinion_of i status) (good i status answer) before
      (good_from i status answer before here)

  jumped_from : (kind : PassKind) (n : ℕ) (i : Impression) (status answer : Code) → (verdict_at i status ≡ codes.Success → G)
      → (answer ≡ codes.Success → grants kind (actions.Jump n) ≡ true → G) → verdict (jumped kind i status answer) ≡ codes.Success → G
  jumped_from kinds.Keep n i status answer before here e = before e
  jumped_from kinds.Follow n i status answer before here e = if_from (is_ignore answer) (opinion_of i status) (good i status answer) before
      (good_from i status answer before (λ a. here a refl)) e
  jumped_from kinds.Loose n i status answer before here e = if_from (is_ignore answer) (opinion_of i status) (good i status answer) before
      (good_from i status answer before (λ a. here a refl)) e

  acted_from : (kind : PassKind) (a : Action) (answer deciding : Code) (entry o : Opinion) → (verdict o ≡ codes.Success → G)
      → (verdict entry ≡ codes.Success → G) → (answer ≡ codes.Success → grants kind a ≡ true → G)
      → verdict (acted kind a answer deciding entry o) ≡ codes.Success → G
  acted_from kind actions.Ignore answer deciding entry o before first here e = before e
  acted_from kind actions.Ok answer deciding entry o before first here e = good_by_from deciding o.impression o.status answer before (λ a. here a refl) e
  acted_from kind actions.Done answer deciding entry o before first here e = good_by_from deciding o.impression o.status answer before (λ a. here a refl) e
  acted_from kind actions.Bad answer deciding entry o before first here e =
      bad_never o.impression o.status answer e (acted_negative kind actions.Bad answer deciding entry o)
  acted_from kind actions.Die answer deciding entry o before first here e =
      bad_never o.impression o.status answer e (acted_negative kind actions.Die answer deciding entry o)
  acted_from kind actions.Reset answer deciding entry o before first here e = first e
  acted_from kind (actions.Jump n) answer deciding entry o before first here e = jumped_from kind n o.impression o.status answer before here e

  overrun_from : (b : Bool) (new : Opinion) → (verdict new ≡ codes.Success → G) → verdict (if b then new else overrun) ≡ codes.Success → G
  overrun_from true new on e = on e
  overrun_from false new on e = absurd cc

  pub last_from : (a : Action) (left : ℕ) (new : Opinion) → (verdict new ≡ codes.Success → G) → verdict (new_or_overrun a left new) ≡ codes.Success → G
  last_from actions.Ignore left new on e = on e
  last_from actions.Ok left new on e = on e
  last_from actions.Done left new on e = on e
  last_from actions.Bad left new on e = on e
  last_from actions.Die left new on e = on e
  last_from actions.Reset left new on e = on e
  last_from (actions.Jump n) left new on e = overrun_from (nat_le n left) new on e

  pub settled_from : (kind : PassKind) (a : Action) (left : ℕ) (answer deciding : Code) (entry o : Opinion) → (verdict o ≡ codes.Success → G)
      → (verdict entry ≡ codes.Success → G) → (answer ≡ codes.Success → grants kind a ≡ true → G)
      → verdict (new_or_overrun a left (acted kind a answer deciding entry o)) ≡ codes.Success → G
  settled_from kind a left answer deciding entry o before first here = last_from a left (acted kind a answer deciding entry o)
      (acted_from kind a answer deciding entry o before first here)

-- ---- whether a line has denied since the last reset

abbrev pub doomed_by : Action → Bool → Bool
doomed_by actions.Bad now = true
doomed_by actions.Die now = true
doomed_by actions.Reset now = false
doomed_by action now = now

jump_doomed : (b now : Bool) → now ≡ true → (if b then now else true) ≡ true
jump_doomed true now is = is
jump_doomed false now is = refl

doomed_after : (a : Action) (left : ℕ) (doomed entry now : Bool) → (doomed ≡ true → now ≡ true) → doomed_by a doomed ≡ true
    → negative_past a left entry now ≡ true
doomed_after actions.Ignore left doomed entry now on e = on e
doomed_after actions.Ok left doomed entry now on e = on e
doomed_after actions.Done left doomed entry now on e = on e
doomed_after actions.Bad left doomed entry now on e = refl
doomed_after actions.Die left doomed entry now on e = refl
doomed_after actions.Reset left doomed entry now on e = absurd (true≢false (sym e))
doomed_after (actions.Jump n) left doomed entry now on e = jump_doomed (nat_le n left) now (on e)

pub settled_doomed : (kind : PassKind) (a : Action) (left : ℕ) (answer deciding : Code) (entry o : Opinion) (doomed : Bool)
    → (doomed ≡ true → negative_opinion o ≡ true) → doomed_by a doomed ≡ true
    → negative_opinion (new_or_overrun a left (acted kind a answer deciding entry o)) ≡ true
settled_doomed kind a left answer deciding entry o doomed on e =
    settled_negative a left (acted kind a answer deciding entry o) (negative_opinion entry) (negative_opinion o) (acted_negative kind a answer deciding entry o)
    ∙ doomed_after a left doomed (negative_opinion entry) (negative_opinion o) on e

pub denies_dooms : (a : Action) (now : Bool) → denies a ≡ true → doomed_by a now ≡ true
denies_dooms actions.Ignore now e = absurd (true≢false (sym e))
denies_dooms actions.Ok now e = absurd (true≢false (sym e))
denies_dooms actions.Done now e = absurd (true≢false (sym e))
denies_dooms actions.Bad now e = refl
denies_dooms actions.Die now e = refl
denies_dooms actions.Reset now e = absurd (true≢false (sym e))
denies_dooms (actions.Jump n) now e = absurd (true≢false (sym e))

pub doomed_stays : (a : Action) → resets a ≡ false → doomed_by a true ≡ true
doomed_stays actions.Ignore e = refl
doomed_stays actions.Ok e = refl
doomed_stays actions.Done e = refl
doomed_stays actions.Bad e = refl
doomed_stays actions.Die e = refl
doomed_stays actions.Reset e = absurd (true≢false e)
doomed_stays (actions.Jump n) e = refl
