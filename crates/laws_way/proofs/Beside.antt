-- A state of a run in which jumps count, beside that of one in which they don't.
use Rattle.std.proofs.Common.{◌≡◌, inl, inr, ℕ, Bool, true, false, true≢false, ◌&&◌, not, if◌then◌else◌, nat_le, refl, sym, ◌∙◌, ap}
use Rattle.pam_base.specs.declared.code.Code.{Code}
use Rattle.pam_base.specs.declared.code.Code.TheVariants as codes
use Rattle.control_words.specs.declared.control.Action.{Action}
use Rattle.control_words.specs.declared.control.Action.TheVariants as actions
use Rattle.handler_chain.specs.declared.impression.Impression.{Impression}
use Rattle.handler_chain.specs.declared.impression.Impression.TheVariants.{Undefined, Positive, Negative}
use Rattle.handler_chain.specs.declared.opinion.Opinion.{Opinion}
use Rattle.handler_chain.specs.declared.pass_kind.PassKind.TheVariants as kinds
use Rattle.handler_chain.specs.Opinion.{acted, bad, good, is_ignore, opinion_of, overrun}
use Rattle.handler_chain.specs.Route.{negative_after, next_by}
use Rattle.handler_chain.specs.Walk.{new_or_overrun, next_of}
use Rattle.handler_chain.proofs.Negativity.{acted_negative, negative_opinion, next_of-is}
use Rattle.stack_ways.specs.Laws.{granted}
use Rattle.laws_way.specs.Loose.{IsUndenied}

-- whether no SUCCESS mends a state: a failure has decided, or another code that counts
abbrev pub spoiled_at : Impression → Code → Bool
spoiled_at Undefined status = false
spoiled_at Positive codes.Success = false
spoiled_at Positive status = true
spoiled_at Negative status = true

abbrev pub spoiled : Opinion → Bool
spoiled o = spoiled_at o.impression o.status

-- both are negative or neither is; and if no SUCCESS mends the first, then none mends the second
pub record Beside (k l : Opinion) : Type 0 where
  pub denied : negative_opinion l ≡ negative_opinion k
  pub spoils : spoiled k ≡ true → spoiled l ≡ true

pub same_beside : (o : Opinion) → Beside o o
same_beside o = record { denied = refl; spoils = λ is. is }

-- ---- a line

good_keeps : (i : Impression) (status answer : Code) → spoiled_at i status ≡ true → spoiled (good i status answer) ≡ true
good_keeps Undefined status answer is = absurd (true≢false (sym is))
good_keeps Positive codes.Success answer is = absurd (true≢false (sym is))
good_keeps Positive status answer is = refl
good_keeps Negative status answer is = refl

good_spoils : (i : Impression) (status answer : Code) → spoiled_at Positive answer ≡ true → spoiled (good i status answer) ≡ true
good_spoils Undefined status answer is = is
good_spoils Positive codes.Success answer is = is
good_spoils Positive status answer is = refl
good_spoils Negative status answer is = refl

good_beside : (i : Impression) (status : Code) (j : Impression) (other answer : Code) → (spoiled_at i status ≡ true → spoiled_at j other ≡ true)
    → spoiled (good i status answer) ≡ true → spoiled (good j other answer) ≡ true
good_beside Undefined status j other answer keeps is = good_spoils j other answer is
good_beside Positive codes.Success j other answer keeps is = good_spoils j other answer is
good_beside Positive status j other answer keeps is = good_keeps j other answer (keeps refl)
good_beside Negative status j other answer keeps is = good_keeps j other answer (keeps refl)

bad_spoils : (i : Impression) (status answer : Code) → spoiled (bad i status answer) ≡ true
bad_spoils Negative status answer = refl
bad_spoils i status codes.Ignore = refl
bad_spoils i status answer = refl

if_beside : (b : Bool) (x y v w : Opinion) → (spoiled x ≡ true → spoiled v ≡ true) → (spoiled y ≡ true → spoiled w ≡ true)
    → spoiled (if b then x else y) ≡ true → spoiled (if b then v else w) ≡ true
if_beside true x y v w one two is = one is
if_beside false x y v w one two is = two is

both_spoiled : (b : Bool) (x y : Opinion) → spoiled x ≡ true → spoiled y ≡ true → spoiled (if b then x else y) ≡ true
both_spoiled true x y one two = one
both_spoiled false x y one two = two

acted_spoils : (a : Action) (answer deciding : Code) (entry other k l : Opinion) → Beside entry other → Beside k l
    → spoiled (acted kinds.Keep a answer deciding entry k) ≡ true → spoiled (acted kinds.Loose a answer deciding other l) ≡ true
acted_spoils actions.Ignore answer deciding entry other k l entries now is = now.spoils is
acted_spoils actions.Ok answer deciding entry other k l entries now is =
    if_beside (is_ignore answer && not (is_ignore deciding)) (opinion_of k.impression k.status) (good k.impression k.status answer)
    (opinion_of l.impression l.status) (good l.impression l.status answer) now.spoils
    (good_beside k.impression k.status l.impression l.status answer now.spoils) is
acted_spoils actions.Done answer deciding entry other k l entries now is =
    if_beside (is_ignore answer && not (is_ignore deciding)) (opinion_of k.impression k.status) (good k.impression k.status answer)
    (opinion_of l.impression l.status) (good l.impression l.status answer) now.spoils
    (good_beside k.impression k.status l.impression l.status answer now.spoils) is
acted_spoils actions.Bad answer deciding entry other k l entries now is = bad_spoils l.impression l.status answer
acted_spoils actions.Die answer deciding entry other k l entries now is = bad_spoils l.impression l.status answer
acted_spoils actions.Reset answer deciding entry other k l entries now is = entries.spoils is
acted_spoils (actions.Jump n) answer deciding entry other k l entries now is =
    both_spoiled (is_ignore answer) (opinion_of l.impression l.status) (good l.impression l.status answer) (now.spoils is)
    (good_keeps l.impression l.status answer (now.spoils is))

pub acted_beside : (a : Action) (answer deciding : Code) (entry other k l : Opinion) → Beside entry other → Beside k l
    → Beside (acted kinds.Keep a answer deciding entry k) (acted kinds.Loose a answer deciding other l)
acted_beside a answer deciding entry other k l entries now = record {
  denied = acted_negative kinds.Loose a answer deciding other l ∙ ap (λ (b : Bool). negative_after a b (negative_opinion l)) entries.denied
      ∙ ap (negative_after a (negative_opinion entry)) now.denied ∙ sym (acted_negative kinds.Keep a answer deciding entry k);
  spoils = acted_spoils a answer deciding entry other k l entries now;
}

overrun_beside : (b : Bool) (k l : Opinion) → Beside k l → Beside (if b then k else overrun) (if b then l else overrun)
overrun_beside true k l now = now
overrun_beside false k l now = same_beside overrun

pub last_beside : (a : Action) (left : ℕ) (k l : Opinion) → Beside k l → Beside (new_or_overrun a left k) (new_or_overrun a left l)
last_beside actions.Ignore left k l now = now
last_beside actions.Ok left k l now = now
last_beside actions.Done left k l now = now
last_beside actions.Bad left k l now = now
last_beside actions.Die left k l now = now
last_beside actions.Reset left k l now = now
last_beside (actions.Jump n) left k l now = overrun_beside (nat_le n left) k l now

-- the list goes on at the same node
pub next_same : (a : Action) (answer deciding : Code) (left : ℕ) (entry other k l : Opinion) → Beside entry other → Beside k l
    → next_of a left (acted kinds.Keep a answer deciding entry k) ≡ next_of a left (acted kinds.Loose a answer deciding other l)
next_same a answer deciding left entry other k l entries now =
    next_of-is a left (acted kinds.Keep a answer deciding entry k) (negative_opinion entry) (negative_opinion k)
    (acted_negative kinds.Keep a answer deciding entry k)
    ∙ ap (next_by a left) (sym now.denied)
    ∙ sym (next_of-is a left (acted kinds.Loose a answer deciding other l) (negative_opinion other) (negative_opinion l)
    (acted_negative kinds.Loose a answer deciding other l))

-- ---- the end

undenied_at : (i : Impression) (status : Code) → (spoiled_at i status ≡ true → ⊥) → IsUndenied (opinion_of i status)
undenied_at Undefined status never = inr refl
undenied_at Positive codes.Success never = inl refl
undenied_at Positive status never = absurd (never refl)
undenied_at Negative status never = absurd (never refl)

pub undenied : (k l : Opinion) → Beside k l → l ≡ granted → IsUndenied k
undenied k l now is = undenied_at k.impression k.status (λ spoils. true≢false (sym (now.spoils spoils) ∙ ap spoiled is))
