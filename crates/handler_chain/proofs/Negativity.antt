-- Whether a state is negative depends on the action alone, whatever the present code.
use Rattle.std.proofs.Common.{◌≡◌, ℕ, Bool, true, false, not, if◌then◌else◌, nat_le, refl, ◌∙◌, ap}
use Rattle.pam_base.specs.declared.code.Code.{Code}
use Rattle.pam_base.specs.declared.code.Code.TheVariants as codes
use Rattle.control_words.specs.declared.control.Action.{Action}
use Rattle.control_words.specs.declared.control.Action.TheVariants as actions
use Rattle.handler_chain.specs.declared.impression.Impression.{Impression}
use Rattle.handler_chain.specs.declared.impression.Impression.TheVariants.{Undefined, Positive, Negative}
use Rattle.handler_chain.specs.declared.opinion.Opinion.{Opinion}
use Rattle.handler_chain.specs.declared.pass_kind.PassKind.{PassKind}
use Rattle.handler_chain.specs.declared.pass_kind.PassKind.TheVariants as kinds
use Rattle.handler_chain.specs.Opinion.{overrun, good, good_by, bad, jumped, acted}
use Rattle.handler_chain.specs.Walk.{is_negative, Next, after, stop, next_of, new_or_overrun}
use Rattle.handler_chain.specs.Route.{negative_after, next_by, negative_past}

abbrev pub negative_opinion : Opinion → Bool
negative_opinion o = is_negative o.impression

if_same : (b : Bool) (x y : Opinion) (v : Bool) → negative_opinion x ≡ v → negative_opinion y ≡ v → negative_opinion (if b then x else y) ≡ v
if_same true x y v p q = p
if_same false x y v p q = q

good_same : (i : Impression) (status p : Code) → negative_opinion (good i status p) ≡ is_negative i
good_same Undefined status p = refl
good_same Positive codes.Success p = refl
good_same Positive status p = refl
good_same Negative status p = refl

good_by_same : (k : Code) (i : Impression) (status p : Code) → negative_opinion (good_by k i status p) ≡ is_negative i
good_by_same k i status p = if_same _ _ _ _ refl (good_same i status p)

bad_negative : (i : Impression) (status p : Code) → negative_opinion (bad i status p) ≡ true
bad_negative Negative status p = refl
bad_negative i status codes.Ignore = refl
bad_negative i status p = refl

jumped_same : (kind : PassKind) (i : Impression) (status p : Code) → negative_opinion (jumped kind i status p) ≡ is_negative i
jumped_same kinds.Keep i status p = refl
jumped_same kind i status p = if_same _ _ _ _ refl (good_same i status p)

pub acted_negative : (kind : PassKind) (a : Action) (p k : Code) (entry o : Opinion)
    → negative_opinion (acted kind a p k entry o) ≡ negative_after a (negative_opinion entry) (negative_opinion o)
acted_negative kind actions.Ignore p k entry o = refl
acted_negative kind actions.Ok p k entry o = good_by_same k o.impression o.status p
acted_negative kind actions.Done p k entry o = good_by_same k o.impression o.status p
acted_negative kind actions.Bad p k entry o = bad_negative o.impression o.status p
acted_negative kind actions.Die p k entry o = bad_negative o.impression o.status p
acted_negative kind actions.Reset p k entry o = refl
acted_negative kind (actions.Jump n) p k entry o = jumped_same kind o.impression o.status p

done_next : (b : Bool) → ◌≡◌ {A = Next} (if not b then stop else after 0) (if b then after 0 else stop)
done_next true = refl
done_next false = refl

pub next_of-is : (a : Action) (left : ℕ) (new : Opinion) (entry now : Bool) → negative_opinion new ≡ negative_after a entry now
    → next_of a left new ≡ next_by a left now
next_of-is actions.Ignore left new entry now is = refl
next_of-is actions.Ok left new entry now is = refl
next_of-is actions.Done left new entry now is = done_next (negative_opinion new) ∙ ap (λ b. if b then after 0 else stop) is
next_of-is actions.Bad left new entry now is = refl
next_of-is actions.Die left new entry now is = refl
next_of-is actions.Reset left new entry now is = refl
next_of-is (actions.Jump n) left new entry now is = refl

jump_negative : (b : Bool) (new : Opinion) (now : Bool) → negative_opinion new ≡ now → negative_opinion (if b then new else overrun) ≡ (if b then now else true)
jump_negative true new now is = is
jump_negative false new now is = refl

pub settled_negative : (a : Action) (left : ℕ) (new : Opinion) (entry now : Bool) → negative_opinion new ≡ negative_after a entry now
    → negative_opinion (new_or_overrun a left new) ≡ negative_past a left entry now
settled_negative actions.Ignore left new entry now is = is
settled_negative actions.Ok left new entry now is = is
settled_negative actions.Done left new entry now is = is
settled_negative actions.Bad left new entry now is = is
settled_negative actions.Die left new entry now is = is
settled_negative actions.Reset left new entry now is = is
settled_negative (actions.Jump n) left new entry now is = jump_negative (nat_le n left) new now is
